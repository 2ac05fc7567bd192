-- The kept places of rows, found by jumps over those that a word reaches.
use Rattle.std.proofs.Common.{◌≡◌, ℕ, zero, suc, ◌+◌, ◌-◌, ◌*◌, ◌<◌, ◌≤◌, true, false, List, [], ◌∷◌, ◌++◌, length, map, get_or, take, Option, Some, None, refl, sym, ap, ap₂, ◌∙◌, subst, ⊎_elim, arith, append_assoc, append-nil, true≢false}
use Rattle.std.proofs.Math.Nat.{zero-mul, one-mul, add-mul, mul-le-mul_right}
use Rattle.std.specs.Int.{div_ceil}
use Rattle.std.proofs.lemmas.Grind.{div_ceil_times}
use Rattle.std.proofs.lemmas.Bool.{cases_eq, cases_lt, le-leb, lt-leb, eq-eqb, ne_eqb}
use Rattle.std.proofs.lemmas.List.{map-append, take_all}
use Rattle.cq_base.specs.declared.group.Place.{Place}
use Rattle.cq_clones.specs.Groups.{is_free, kept_after, kept_of}
use Rattle.cq_groups.specs.declared.spots.Spot.{Spot}
use Rattle.cq_groups.specs.declared.spots.Row.{Row}
use Rattle.cq_groups.specs.Rows.{further, behind, row_spots, all_of}
use Rattle.cq_groups.specs.Sets.{IsFreeAt, KeepsRow}
use Rattle.cq_groups.proofs.RowLaws.{taken_more}

-- ---- what a word reaches

-- a place that a word doesn't reach
free : (n : ℕ) (p q : Place) → p.at + n ≤ q.at → is_free n (Some p) q ≡ true
free n p q past = ⊎_elim (λ same. rw (eq-eqb p.file q.file same, le-leb (p.at + n) q.at past) refl) (λ other. rw (ne_eqb p.file q.file other) refl) (cases_eq p.file q.file)

-- one that it reaches
reached_from : (n : ℕ) (p q : Place) → is_free n (Some p) q ≡ false → (p.file ≡ q.file) × (q.at < p.at + n)
reached_from n p q is =
    ⊎_elim
    (λ same. ⊎_elim
    (λ below. (same, below))
    (λ past. absurd (true≢false (sym (free n p q past) ∙ is)))
    (cases_lt q.at (p.at + n)))
    (λ other. let free : is_free n (Some p) q ≡ true = rw (ne_eqb p.file q.file other) refl in absurd (true≢false (sym free ∙ is)))
    (cases_eq p.file q.file)

reached : (n : ℕ) (p q : Place) → p.file ≡ q.file → q.at < p.at + n → is_free n (Some p) q ≡ false
reached n p q same below = rw (eq-eqb p.file q.file same, lt-leb (p.at + n) q.at below) refl

-- what is left of it at such a place
pub left_at : (n : ℕ) (p q : Place) → is_free n (Some p) q ≡ false → q.at < p.at + n
left_at n p q is = (reached_from n p q is).1

-- how many gaps are as long as what is left of it, and one fewer aren't
pub record ReachesGaps (n : ℕ) (p q : Place) (gap c : ℕ) : Type 0 where
  pub enough : p.at + n - q.at ≤ c * gap
  pub least : c * gap < p.at + n - q.at + gap

pub gaps_reached : (n : ℕ) (p q : Place) (gap c : ℕ) → 0 < gap → c ≡ div_ceil (p.at + n - q.at) gap → ReachesGaps n p q gap c
gaps_reached n p q gap c some is =
    let h = div_ceil_times (p.at + n - q.at) gap some in
    subst (ReachesGaps n p q gap) (sym is) (record { enough = h.0; least = h.1 })

-- so it reaches as many spots of a row from the first one on that it reaches
pub reached_in_row : (n : ℕ) (p q : Place) (r : Row) (from c k : ℕ) → q ≡ further r.first.place (from * r.gap) → is_free n (Some p) q ≡ false → ReachesGaps n p q r.gap c → from ≤ k → k < from + c → IsFreeAt n (Some p) r k false
reached_in_row n p q r from c k q_is is gaps later lt =
    let h = reached_from n p q is in
    let times : (k - from + 1) * r.gap ≤ c * r.gap = mul-le-mul_right r.gap (omega (arith, later, lt)) in
    let split = add-mul (k - from) 1 r.gap in
    let one = one-mul r.gap in
    let whole : k ≡ from + (k - from) = omega (arith, later) in
    let both : k * r.gap ≡ from * r.gap + (k - from) * r.gap = ap (λ (j : ℕ). j * r.gap) whole ∙ add-mul from (k - from) r.gap in
    let at : q.at ≡ r.first.place.at + from * r.gap = ap (λ (w : Place). w.at) q_is in
    let file : q.file ≡ r.first.place.file = ap (λ (w : Place). w.file) q_is in
    reached n p (further r.first.place (k * r.gap)) (h.0 ∙ file) (omega (arith, h.1, gaps.least, times, one, split, both, at))

-- and not the next one
pub free_in_row : (n : ℕ) (p q : Place) (r : Row) (from c : ℕ) → q ≡ further r.first.place (from * r.gap) → ReachesGaps n p q r.gap c → IsFreeAt n (Some p) r (from + c) true
free_in_row n p q r from c q_is gaps =
    let both = add-mul from c r.gap in
    let at : q.at ≡ r.first.place.at + from * r.gap = ap (λ (w : Place). w.at) q_is in
    free n p (further r.first.place ((from + c) * r.gap)) (omega (arith, gaps.enough, both, at))

-- ---- the places of a row from one on

pub further_none : (p : Place) (g k : ℕ) → k ≡ 0 → p ≡ further p (k * g)
further_none p g k e =
    let none : k * g ≡ 0 = ap (λ (j : ℕ). j * g) e ∙ zero-mul g in
    let at : p.at ≡ p.at + k * g = omega (arith, none) in
    ap (λ (j : ℕ). let q : Place = record { file = p.file; at = j } in q) at

abbrev pub places_from : Place → ℕ → ℕ → ℕ → List Place
places_from p gap i zero = []
places_from p gap i (suc n) = further p (i * gap) ∷ places_from p gap (i + 1) n

next_at : (a i g : ℕ) → a + i * g + g ≡ a + (i + 1) * g
next_at a i g = let m = add-mul i 1 g in let o = one-mul g in omega (arith, m, o)

places_behind : (n : ℕ) (p : Place) (g l i : ℕ) → map (λ s. s.place) (behind n (further p (i * g)) g l) ≡ places_from p g (i + 1) n
places_behind zero p g l i = refl
places_behind (suc n) p g l i =
    ap (λ (k : ℕ). let q : Place = record { file = p.file; at = k } in q ∷ map (λ (s : Spot). s.place) (behind n q g l)) (next_at p.at i g)
    ∙ ap (λ (ps : List Place). further p ((i + 1) * g) ∷ ps) (places_behind n p g l (i + 1))

pub places_of_row : (r : Row) → map (λ s. s.place) (row_spots r) ≡ places_from r.first.place r.gap 0 (r.others + 1)
places_of_row r =
    let p = r.first.place in
    let one : suc r.others ≡ r.others + 1 = omega arith in
    ap (λ (q : Place). q ∷ map (λ (s : Spot). s.place) (behind r.others q r.gap r.left)) (further_none p r.gap 0 refl)
    ∙ ap (λ (ps : List Place). further p (0 * r.gap) ∷ ps) (places_behind r.others p r.gap r.left 0)
    ∙ ap (places_from p r.gap 0) one

-- ---- steps of what is kept

passed : (n : ℕ) (last : Option Place) (p : Place) (rest : List Place) → is_free n last p ≡ false → kept_after n last (p ∷ rest) ≡ kept_after n last rest
passed n last p rest is = rw is refl

taken : (n : ℕ) (last : Option Place) (p : Place) (rest : List Place) → is_free n last p ≡ true → kept_after n last (p ∷ rest) ≡ p ∷ kept_after n (Some p) rest
taken n last p rest is = rw is refl

-- those that are reached are passed over
all_passed : (m n : ℕ) (last : Option Place) (p : Place) (g i c : ℕ) (rest : List Place) → m ≤ c → ((k : ℕ) → i ≤ k → k < i + m → is_free n last (further p (k * g)) ≡ false) → kept_after n last (places_from p g i c ++ rest) ≡ kept_after n last (places_from p g (i + m) (c - m) ++ rest)
all_passed zero n last p g i c rest le reached =
    let a : i ≡ i + 0 = omega arith in
    let b : c ≡ c - 0 = omega arith in
    ap₂ (λ (x y : ℕ). kept_after n last (places_from p g x y ++ rest)) a b
all_passed (suc m) n last p g i zero rest le reached = absurd (omega (arith, le))
all_passed (suc m) n last p g i (suc c) rest le reached =
    let a : i + 1 + m ≡ i + suc m = omega arith in
    let b : c - m ≡ suc c - suc m = omega arith in
    passed n last (further p (i * g)) (places_from p g (i + 1) c ++ rest) (reached i (omega arith) (omega arith))
    ∙ all_passed m n last p g (i + 1) c rest (omega (arith, le)) (λ k ik lt. reached k (omega (arith, ik)) (omega (arith, lt)))
    ∙ ap₂ (λ (x y : ℕ). kept_after n last (places_from p g x y ++ rest)) a b

-- up to the one at `i` of a row, which is free of the last kept one
pub record KeptInRow (n : ℕ) (r : Row) (first last : Option Place) (i : ℕ) (old kept : List Place) : Type 0 where
  pub end : i ≤ r.others + 1
  pub free : i ≤ r.others → IsFreeAt n last r i true
  pub is : (rest : List Place) → kept ++ kept_after n last (places_from r.first.place r.gap i (r.others + 1 - i) ++ rest) ≡ old ++ kept_after n first (map (λ s. s.place) (row_spots r) ++ rest)

-- from one to the next free one
jump : (n : ℕ) (r : Row) (last : Option Place) (i j : ℕ) (rest : List Place) → i ≤ j → j ≤ r.others + 1 → ((k : ℕ) → i ≤ k → k < j → IsFreeAt n last r k false) → kept_after n last (places_from r.first.place r.gap i (r.others + 1 - i) ++ rest) ≡ kept_after n last (places_from r.first.place r.gap j (r.others + 1 - j) ++ rest)
jump n r last i j rest later end reached =
    let m = j - i in
    let a : i + m ≡ j = omega (arith, later) in
    let b : r.others + 1 - i - m ≡ r.others + 1 - j = omega (arith, later, end) in
    all_passed m n last r.first.place r.gap i (r.others + 1 - i) rest (omega (arith, later, end)) (λ k ik lt. reached k ik (omega (arith, lt, a)))
    ∙ ap₂ (λ (x y : ℕ). kept_after n last (places_from r.first.place r.gap x y ++ rest)) a b

pub row_begins : (n : ℕ) (r : Row) (last : Option Place) (j : ℕ) (old : List Place) → j ≤ r.others + 1 → ((k : ℕ) → 0 ≤ k → k < j → IsFreeAt n last r k false) → (j ≤ r.others → IsFreeAt n last r j true) → KeptInRow n r last last j old old
row_begins n r last j old end reached free = record {
  end = end;
  free = free;
  is = λ rest.
      let all : r.others + 1 - 0 ≡ r.others + 1 = omega arith in
      ap (λ (ps : List Place). old ++ ps)
      (sym (jump n r last 0 j rest (omega arith) end reached)
      ∙ ap (λ (c : ℕ). kept_after n last (places_from r.first.place r.gap 0 c ++ rest)) all
      ∙ ap (λ (ps : List Place). kept_after n last (ps ++ rest)) (sym (places_of_row r)));
}

pub row_goes_on : (n : ℕ) (r : Row) (first last : Option Place) (i j : ℕ) (p : Place) (old kept more : List Place) → i ≤ r.others → p ≡ further r.first.place (i * r.gap) → more ≡ kept ++ p ∷ [] → i + 1 ≤ j → j ≤ r.others + 1 → ((k : ℕ) → i + 1 ≤ k → k < j → IsFreeAt n (Some p) r k false) → (j ≤ r.others → IsFreeAt n (Some p) r j true) → KeptInRow n r first last i old kept → KeptInRow n r first (Some p) j old more
row_goes_on n r first last i j p old kept more within p_is more_is later end reached free before = record {
  end = end;
  free = free;
  is = λ rest.
      let g = r.gap in
      let o = r.others in
      let q = r.first.place in
      let c : o + 1 - i ≡ suc (o - i) = omega (arith, within) in
      let b : o + 1 - (i + 1) ≡ o - i = omega (arith, within) in
      let free_here : is_free n last p ≡ true = ap (is_free n last) p_is ∙ before.free within in
      ap (λ (ps : List Place). ps ++ kept_after n (Some p) (places_from q g j (o + 1 - j) ++ rest)) more_is
      ∙ append_assoc kept (p ∷ []) (kept_after n (Some p) (places_from q g j (o + 1 - j) ++ rest))
      ∙ ap (λ (ps : List Place). kept ++ p ∷ ps) (sym (jump n r (Some p) (i + 1) j rest later end reached) ∙ ap (λ (x : ℕ). kept_after n (Some p) (places_from q g (i + 1) x ++ rest)) b)
      ∙ ap (λ (ps : List Place). kept ++ ps) (sym (taken n last p (places_from q g (i + 1) (o - i) ++ rest) free_here))
      ∙ ap (λ (w : Place). kept ++ kept_after n last (w ∷ (places_from q g (i + 1) (o - i) ++ rest))) p_is
      ∙ ap (λ (x : ℕ). kept ++ kept_after n last (places_from q g i x ++ rest)) (sym c)
      ∙ before.is rest;
}

pub row_ends : (n : ℕ) (r : Row) (first last : Option Place) (i : ℕ) (old kept : List Place) → r.others < i → KeptInRow n r first last i old kept → KeepsRow n r first last old kept
row_ends n r first last i old kept past before = λ rest.
    let none : 0 ≡ r.others + 1 - i = omega (arith, past, before.end) in
    ap (λ (c : ℕ). kept ++ kept_after n last (places_from r.first.place r.gap i c ++ rest)) none ∙ before.is rest

-- ---- rows

-- those of the first rows, whatever places follow
abbrev pub AreKept : ℕ → List Row → Option Place → List Place → Type 0
AreKept n rows last kept = (rest : List Place) → kept ++ kept_after n last rest ≡ kept_of n (map (λ s. s.place) (all_of rows) ++ rest)

pub kept_none : (n : ℕ) (rows : List Row) (kept : List Place) → kept ≡ [] → AreKept n (take 0 rows) None kept
kept_none n [] kept none = λ rest. ap (λ (ps : List Place). ps ++ kept_after n None rest) none
kept_none n (r ∷ rs) kept none = λ rest. ap (λ (ps : List Place). ps ++ kept_after n None rest) none

pub kept_more : (n : ℕ) (rows : List Row) (i : ℕ) (d : Row) (last latest : Option Place) (old new : List Place) → i < length rows → KeepsRow n (get_or rows i d) last latest old new → AreKept n (take i rows) last old → AreKept n (take (i + 1) rows) latest new
kept_more n rows i d last latest old new lt keeps before = λ rest.
    let r : Row = get_or rows i d in
    let ps = map (λ (s : Spot). s.place) (all_of (take i rows)) in
    let qs = map (λ (s : Spot). s.place) (row_spots r) in
    keeps rest
    ∙ before (qs ++ rest)
    ∙ ap (kept_of n) (sym (append_assoc ps qs rest)
    ∙ ap (λ (ws : List Place). ws ++ rest) (sym (map-append (λ (s : Spot). s.place) (all_of (take i rows)) (row_spots r)) ∙ ap (map (λ (s : Spot). s.place)) (taken_more rows i d lt)))

pub kept_all : (n : ℕ) (rows : List Row) (i : ℕ) (last : Option Place) (kept : List Place) → length rows ≤ i → AreKept n (take i rows) last kept → kept ≡ kept_of n (map (λ s. s.place) (all_of rows))
kept_all n rows i last kept past are =
    sym (append-nil kept)
    ∙ are []
    ∙ ap (kept_of n) (append-nil (map (λ (s : Spot). s.place) (all_of (take i rows))))
    ∙ ap (λ (rs : List Row). kept_of n (map (λ (s : Spot). s.place) (all_of rs))) (take_all i rows past)
