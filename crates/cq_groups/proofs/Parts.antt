-- The parts of a set, as they are added.
use Rattle.std.proofs.Common.{Global, Vec, ◌≡◌, ℕ, suc, ◌+◌, ◌-◌, ◌<◌, ◌≤◌, Bool, cond, List, [], ◌∷◌, ◌++◌, length, map, take, get_or, set, refl, sym, ap, ◌∙◌, subst, ⊎_elim, arith, append_assoc, append-nil, length-set, true, false, eqb}
use Rattle.std.specs.Prelude.{Contains, Any, filter, nat_le}
use Rattle.std.proofs.lemmas.List.{length_push, take_more, map-append, get_or-map, get_or_append_left, get_or-set_same, get_or-set_other}
use Rattle.std.proofs.lemmas.List.Elements.{filter-append}
use Rattle.std.proofs.lemmas.Bool.{cases_eq}
use Rattle.std.proofs.Math.Seq.{get_or-append_seam}
use Rattle.cq_groups.specs.declared.spots.Row.{Row}
use Rattle.cq_groups.specs.declared.spots.MarkedRow.{MarkedRow}
use Rattle.std.proofs.lemmas.List.Quantifiers.{all_pairs_push}
use Rattle.std.proofs.lemmas.List.Elements.{Contains-get_or}
use Rattle.std.proofs.lemmas.Bool.{cases_lt, cases_order, le-leb, lt-leb, eq-eqb, ne_eqb}
use Rattle.std.proofs.lemmas.List.Elements.{Contains-push, Contains-push_cases, Contains-append_left}
use Rattle.std.proofs.lemmas.List.Sums.{sum_by_push}
use Rattle.cq_base.proofs.Lists.{Contains-nil}
use Rattle.cq_groups.specs.declared.spots.Set.{Set}
use Rattle.cq_groups.specs.Sets.{set_spots, Marked, part_of, rows_of, AreByMark, IsPart, ArePartsOf, MayGive, AddsParts}

-- the marks up to m, and those that are m + 1
count_more : (m : ℕ) (marked : List Marked) → length (filter (λ x. nat_le x.mark m) marked) + length (part_of (m + 1) marked) ≤ length (filter (λ x. nat_le x.mark (m + 1)) marked)
count_more m [] = omega arith
count_more m (x ∷ xs) =
    let rest = count_more m xs in
    ⊎_elim
    (λ same.
    let a : nat_le x.mark m ≡ false = lt-leb x.mark m (omega arith) in
    let b : eqb x.mark (m + 1) ≡ true = eq-eqb x.mark (m + 1) same in
    let c : nat_le x.mark (m + 1) ≡ true = le-leb x.mark (m + 1) (omega arith) in
    rw (a, b, c) (omega arith))
    (λ other. ⊎_elim
    (λ lt.
    let a : nat_le x.mark m ≡ true = le-leb x.mark m (omega arith) in
    let b : eqb x.mark (m + 1) ≡ false = ne_eqb x.mark (m + 1) (λ e. omega arith) in
    let c : nat_le x.mark (m + 1) ≡ true = le-leb x.mark (m + 1) (omega arith) in
    rw (a, b, c) (omega arith))
    (λ gt.
    let a : nat_le x.mark m ≡ false = lt-leb x.mark m (omega arith) in
    let b : eqb x.mark (m + 1) ≡ false = ne_eqb x.mark (m + 1) (λ e. omega arith) in
    let c : nat_le x.mark (m + 1) ≡ false = lt-leb x.mark (m + 1) (omega arith) in
    rw (a, b, c) (omega arith))
    other)
    (cases_order x.mark (m + 1))

-- ---- the rows of each mark

take_more_is : (xs : List MarkedRow) (i : ℕ) (x : MarkedRow) → i < length xs → x ≡ get_or xs i x → take (i + 1) xs ≡ take i xs ++ x ∷ []
take_more_is xs i x lt read = take_more xs i x lt ∙ ap (λ (y : MarkedRow). take i xs ++ y ∷ []) (sym read)

pub rows_push : (m : ℕ) (xs : List MarkedRow) (x : MarkedRow) → rows_of m (xs ++ x ∷ []) ≡ cond (eqb x.mark m) (rows_of m xs ++ x.row ∷ []) (rows_of m xs)
rows_push m xs x =
    ap (map (λ (z : MarkedRow). z.row)) (filter-append (λ (z : MarkedRow). eqb z.mark m) xs (x ∷ []))
    ∙ map-append (λ (z : MarkedRow). z.row) (filter (λ (z : MarkedRow). eqb z.mark m) xs) (filter (λ (z : MarkedRow). eqb z.mark m) (x ∷ []))
    ∙ by (eqb x.mark m)
  where
    by : (b : Bool) → rows_of m xs ++ map (λ (z : MarkedRow). z.row) (cond b (x ∷ []) []) ≡ cond b (rows_of m xs ++ x.row ∷ []) (rows_of m xs)
    by true = refl
    by false = append-nil (rows_of m xs)

pub part_read : (parts : List (Vec Row Global)) (i : ℕ) (part : Vec Row Global) → i < length parts → part ≡ get_or parts i part → part.items ≡ get_or (map (λ p. p.items) parts) i []
part_read parts i part within read = ap (λ p. p.items) read ∙ sym (get_or-map (λ p. p.items) parts i part [] within)

-- one more mark, of no row
pub by_mark_none : (n : ℕ) (parts more : List (List Row)) → more ≡ parts ++ [] ∷ [] → AreByMark n [] parts → AreByMark (n + 1) [] more
by_mark_none n parts more is are = record {
  number = ap length is ∙ length_push parts [] ∙ ap (λ k. k + 1) are.number;
  each = λ m d lt. ap (λ ps. get_or ps m d) is ∙ ⊎_elim
      (λ below. get_or_append_left parts ([] ∷ []) d m (omega (arith, below, are.number)) ∙ are.each m d below)
      (λ above. let e : m ≡ length parts = omega (arith, above, lt, are.number) in ap (λ k. get_or (parts ++ [] ∷ []) k d) e ∙ get_or-append_seam parts [] [] d)
      (cases_lt m n);
}

-- a row comes to the part of its mark
pub by_mark_more : (n i : ℕ) (marked : List MarkedRow) (x : MarkedRow) (parts more : List (List Row)) → i < length marked → x ≡ get_or marked i x → 0 < x.mark → x.mark ≤ n → more ≡ set parts (x.mark - 1) (get_or parts (x.mark - 1) [] ++ x.row ∷ []) → AreByMark n (take i marked) parts → AreByMark n (take (i + 1) marked) more
by_mark_more n i marked x parts more lt read some low is are = record {
  number = ap length is ∙ length-set parts (x.mark - 1) _ ∙ are.number;
  each = λ m d within. ap (λ ps. get_or ps m d) is ∙ ⊎_elim
      (λ same.
      let e : x.mark ≡ m + 1 = omega (arith, same, some) in
      let here : m < length parts = omega (arith, within, are.number) in
      ap (λ k. get_or (set parts k (get_or parts k [] ++ x.row ∷ [])) m d) (sym same)
      ∙ get_or-set_same parts m _ d here
      ∙ ap (λ ss. ss ++ x.row ∷ []) (are.each m [] within)
      ∙ ap (λ b. cond b (rows_of (m + 1) (take i marked) ++ x.row ∷ []) (rows_of (m + 1) (take i marked))) (sym (eq-eqb x.mark (m + 1) e))
      ∙ sym (rows_push (m + 1) (take i marked) x)
      ∙ ap (rows_of (m + 1)) (sym (take_more_is marked i x lt read)))
      (λ other.
      let apart : eqb x.mark (m + 1) ≡ false = ne_eqb x.mark (m + 1) (λ e. other (omega (arith, e))) in
      get_or-set_other parts (x.mark - 1) m _ d other
      ∙ are.each m d within
      ∙ ap (λ b. cond b (rows_of (m + 1) (take i marked) ++ x.row ∷ []) (rows_of (m + 1) (take i marked))) (sym apart)
      ∙ sym (rows_push (m + 1) (take i marked) x)
      ∙ ap (rows_of (m + 1)) (sym (take_more_is marked i x lt read)))
      (cases_eq m (x.mark - 1));
}

-- a row of no mark comes to none
pub by_mark_same : (n i : ℕ) (marked : List MarkedRow) (x : MarkedRow) (parts : List (List Row)) → i < length marked → x ≡ get_or marked i x → x.mark ≡ 0 → AreByMark n (take i marked) parts → AreByMark n (take (i + 1) marked) parts
by_mark_same n i marked x parts lt read none are = record {
  number = are.number;
  each = λ m d within.
      let apart : eqb x.mark (m + 1) ≡ false = ne_eqb x.mark (m + 1) (λ e. omega (arith, e, none)) in
      are.each m d within
      ∙ ap (λ b. cond b (rows_of (m + 1) (take i marked) ++ x.row ∷ []) (rows_of (m + 1) (take i marked))) (sym apart)
      ∙ sym (rows_push (m + 1) (take i marked) x)
      ∙ ap (rows_of (m + 1)) (sym (take_more_is marked i x lt read));
}

-- the parts of the marks above m are left
pub record AreLeft (m highest : ℕ) (marked : List MarkedRow) (rest : List (List Row)) : Type 0 where
  pub number : m + length rest ≡ highest
  pub each : (k : ℕ) (d : List Row) → k < length rest → get_or rest k d ≡ rows_of (m + k + 1) marked

pub left_first : (highest : ℕ) (marked : List MarkedRow) (parts : List (List Row)) → AreByMark highest marked parts → AreLeft 0 highest marked parts
left_first highest marked parts are = record { number = omega (arith, are.number); each = λ k d lt. are.each k d (omega (arith, lt, are.number)) ∙ ap (λ n. rows_of n marked) (omega arith) }

pub left_next : (m highest : ℕ) (marked : List MarkedRow) (part : List Row) (rest : List (List Row)) → AreLeft m highest marked (part ∷ rest) → (part ≡ rows_of (m + 1) marked) × AreLeft (m + 1) highest marked rest
left_next m highest marked part rest left = (
  left.each 0 part (omega arith) ∙ ap (λ k. rows_of k marked) (omega arith),
  record {
    number = omega (arith, left.number);
    each = λ k d lt. left.each (suc k) d (omega (arith, lt)) ∙ ap (λ n. rows_of n marked) (omega arith);
  },
)

-- at the end none are
pub left_none : (m highest : ℕ) (marked : List MarkedRow) → AreLeft m highest marked [] → m ≡ highest
left_none m highest marked left = omega (arith, left.number)

pub no_parts : (depth : ℕ) (marked : List Marked) (old : List Set) → AddsParts depth marked 0 old old
no_parts depth marked old = record {
  parts = [];
  is = sym (append-nil old);
  are = record {
    each = λ s c. absurd (Contains-nil s c);
    apart = λ i j d lt within. absurd (omega arith);
    all = λ x c some low several. absurd (omega arith);
  };
  size = omega arith;
}

any_of : (P : Set → Type 0) (sets : List Set) (s : Set) → Contains sets s → P s → Any P sets
any_of P sets s (k, within, at) h = (k, s, within, at, h)

higher : {depth m : ℕ} {marked : List Marked} {s : Set} → IsPart depth marked m s → IsPart depth marked (m + 1) s
higher p = record { mark = p.mark; some = p.some; low = omega (arith, p.low); deeper = p.deeper; gives = p.gives; is = p.is }

-- a part that may give groups is added
pub part_more : (depth : ℕ) (marked : List Marked) (m : ℕ) (old new more : List Set) (s : Set) → s.depth ≡ depth → (set_spots s) ≡ part_of (m + 1) marked → MayGive (set_spots s) → more ≡ new ++ s ∷ [] → AddsParts depth marked m old new → AddsParts depth marked (m + 1) old more
part_more depth marked m old new more s s_depth s_is gives more_is before =
    let here : IsPart depth marked (m + 1) s = record { mark = m + 1; some = omega arith; low = omega arith; deeper = s_depth; gives = gives; is = s_is } in record {
      parts = before.parts ++ s ∷ [];
      is = more_is ∙ ap (λ xs. xs ++ s ∷ []) before.is ∙ append_assoc old before.parts (s ∷ []);
      are = record {
        each = λ t c. ⊎_elim
            (λ h. higher (before.are.each t h))
            (λ e. subst (IsPart depth marked (m + 1)) e here)
            (Contains-push_cases before.parts s t c);
        apart = all_pairs_push (ArePartsOf marked) before.parts s before.are.apart
            (λ k d lt. let p = before.are.each _ (Contains-get_or before.parts k d lt) in record { mark = p.mark; other = m + 1; some = p.some; differ = omega (arith, p.low); is = p.is; other_is = s_is });
        all = λ x c some low enough. ⊎_elim
            (λ lt. let (k, t, within, at, h) = before.are.all x c some (omega arith) enough in
            any_of (λ z. (z.depth ≡ depth) × ((set_spots z) ≡ part_of x.mark marked)) (before.parts ++ s ∷ []) t (Contains-append_left before.parts (s ∷ []) t (k, within, at)) h)
            (λ ge. let e : m + 1 ≡ x.mark = omega arith in
            any_of (λ z. (z.depth ≡ depth) × ((set_spots z) ≡ part_of x.mark marked)) (before.parts ++ s ∷ []) s (Contains-push before.parts s) (s_depth, s_is ∙ ap (λ k. part_of k marked) e))
            (cases_lt x.mark (m + 1));
      };
      size = omega (arith, before.size, count_more m marked, sum_by_push (λ (z : Set). length (set_spots z)) before.parts s, ap length s_is);
    }

-- another is not
pub part_skipped : (depth : ℕ) (marked : List Marked) (m : ℕ) (old new : List Set) → (MayGive (part_of (m + 1) marked) → ⊥) → AddsParts depth marked m old new → AddsParts depth marked (m + 1) old new
part_skipped depth marked m old new few before = record {
  parts = before.parts;
  is = before.is;
  are = record {
    each = λ t c. higher (before.are.each t c);
    apart = before.are.apart;
    all = λ x c some low enough. ⊎_elim
        (λ lt. before.are.all x c some (omega arith) enough)
        (λ ge. let e : x.mark ≡ m + 1 = omega arith in absurd (few (subst (λ (k : ℕ). MayGive (part_of k marked)) e enough)))
        (cases_lt x.mark (m + 1));
  };
  size = omega (arith, before.size, count_more m marked);
}
