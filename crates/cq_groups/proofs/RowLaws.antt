-- Rows and their spots, and the tokens after the spots of a row.
use Rattle.std.proofs.Common.{◌≡◌, ◌↔◌, ℕ, zero, suc, ◌+◌, ◌-◌, ◌*◌, ◌^◌, ◌<◌, ◌≤◌, List, [], ◌∷◌, ◌++◌, length, get_or, take, slice_get, Some, refl, sym, ap, ap₂, ◌∙◌, subst, ⊎_elim, arith, append_assoc, append-nil, length-append}
use Rattle.std.specs.Prelude.{All, Contains}
use Rattle.std.proofs.Math.Nat.{one-mul, add-mul, mul-add, mul-one, mul-le-mul_right}
use Rattle.std.proofs.Math.Seq.{get_or-append_seam}
use Rattle.std.proofs.lemmas.Bool.{cases_lt}
use Rattle.std.proofs.lemmas.List.{get_or_append_left, length_push, take_more}
use Rattle.std.proofs.lemmas.List.Elements.{All-contains, Contains-get_or, Contains-append_left, Contains-append_right, Contains-append_cases, Contains-push_cases}
use Rattle.cq_base.specs.declared.group.Place.{Place}
use Rattle.cq_base.proofs.Lists.{Contains-here, Contains-there, Contains-cases, Contains-nil}
use Rattle.cq_clones.specs.Groups.{file_at, token_behind}
use Rattle.cq_groups.specs.declared.spots.Spot.{Spot}
use Rattle.cq_groups.specs.declared.spots.Row.{Row}
use Rattle.cq_groups.specs.Rows.{further, spot_at, behind, row_spots, all_of, IsSteps, IsRow, IsFollowed, AreRows}
use Rattle.cq_groups.specs.Sets.{AreAlike, AreOne, HasLeft, IsRowOf, AddsRow}

-- ---- the spots of rows

pub in_all : (rows : List Row) (r : Row) (s : Spot) → Contains rows r → Contains (row_spots r) s → Contains (all_of rows) s
in_all [] r s c h = absurd (Contains-nil r c)
in_all (x ∷ rs) r s c h =
    ⊎_elim
    (λ is. Contains-append_left (row_spots x) (all_of rs) s (subst (λ (z : Row). Contains (row_spots z) s) (sym is) h))
    (λ later. Contains-append_right (row_spots x) (all_of rs) s (in_all rs r s later h))
    (Contains-cases x r rs c)

pub from_all : (rows : List Row) (s : Spot) → Contains (all_of rows) s → (r : Row) × Contains rows r × Contains (row_spots r) s
from_all [] s c = absurd (Contains-nil s c)
from_all (x ∷ rs) s c =
    ⊎_elim
    (λ here. (x, Contains-here x rs, here))
    (λ later. let (r, r_in, s_in) = from_all rs s later in (r, Contains-there x r rs r_in, s_in))
    (Contains-append_cases (row_spots x) (all_of rs) s c)

pub first_in : (rows : List Row) (r : Row) → Contains rows r → Contains (all_of rows) r.first
first_in rows r c = in_all rows r r.first c (Contains-here r.first (behind r.others r.first.place r.gap r.left))

pub firsts_are : (P : Spot → Type 0) (rows : List Row) → All P (all_of rows) → All (λ r. P r.first) rows
firsts_are P rows all k d within = All-contains P (all_of rows) (get_or rows k d).first all (first_in rows (get_or rows k d) (Contains-get_or rows k d within))

pub rows_within : (rows : List Row) → length rows ≤ length (all_of rows)
rows_within [] = omega arith
rows_within (r ∷ rs) =
    let h = rows_within rs in
    let e = length-append (behind r.others r.first.place r.gap r.left) (all_of rs) in
    omega (arith, h, e)

pub some_rows : (rows : List Row) → 2 ≤ length (all_of rows) → 0 < length rows
some_rows [] several = absurd (omega (arith, several))
some_rows (r ∷ rs) several = omega arith

pub none_of_none : (rows : List Row) → length rows ≡ 0 → all_of rows ≡ []
none_of_none [] e = refl
none_of_none (r ∷ rs) e = absurd (omega (arith, e))

pub all_push : (rows : List Row) (r : Row) → all_of (rows ++ r ∷ []) ≡ all_of rows ++ row_spots r
all_push [] r = append-nil (row_spots r)
all_push (x ∷ rs) r = ap (λ (ss : List Spot). row_spots x ++ ss) (all_push rs r) ∙ sym (append_assoc (row_spots x) (all_of rs) (row_spots r))

taken_none : (rows : List Row) → all_of (take 0 rows) ≡ []
taken_none [] = refl
taken_none (r ∷ rs) = refl

pub first_taken : (rows : List Row) (d : Row) → 0 < length rows → row_spots (get_or rows 0 d) ≡ all_of (take 1 rows)
first_taken [] d some = absurd (omega (arith, some))
first_taken (r ∷ rs) d some = sym (append-nil (row_spots r)) ∙ ap (λ (ss : List Spot). row_spots r ++ ss) (sym (taken_none rs))

pub taken_more : (rows : List Row) (i : ℕ) (d : Row) → i < length rows → all_of (take i rows) ++ row_spots (get_or rows i d) ≡ all_of (take (i + 1) rows)
taken_more rows i d lt = sym (ap all_of (take_more rows i d lt) ∙ all_push (take i rows) (get_or rows i d))

pub alone_spots : (r : Row) → r.others ≡ 0 → row_spots r ≡ r.first ∷ []
alone_spots r e = ap (λ (n : ℕ). r.first ∷ behind n r.first.place r.gap r.left) e

pub pair_spots_of : (a b : Row) → a.others ≡ 0 → b.others ≡ 0 → all_of (a ∷ b ∷ []) ≡ a.first ∷ b.first ∷ []
pair_spots_of a b p q = ap₂ (λ (m n : ℕ). (a.first ∷ behind m a.first.place a.gap a.left) ++ ((b.first ∷ behind n b.first.place b.gap b.left) ++ [])) p q

-- ---- the spots after the first one of a row

some_behind : (n : ℕ) (p : Place) (g l : ℕ) (s : Spot) → Contains (behind n p g l) s → 0 < n
some_behind zero p g l s c = absurd (Contains-nil s c)
some_behind (suc n) p g l s c = omega arith

behind_here : (n : ℕ) (p : Place) (g l : ℕ) → 0 < n → Contains (behind n p g l) (spot_at (further p g) l)
behind_here zero p g l some = absurd (omega (arith, some))
behind_here (suc n) p g l some = Contains-here (spot_at (further p g) l) (behind n (further p g) g l)

behind_left : (n : ℕ) (p : Place) (g l : ℕ) (s : Spot) → Contains (behind n p g l) s → s.left ≡ l
behind_left zero p g l s c = absurd (Contains-nil s c)
behind_left (suc n) p g l s c =
    ⊎_elim
    (λ is. sym (ap (λ (z : Spot). z.left) is))
    (λ later. behind_left n (further p g) g l s later)
    (Contains-cases (spot_at (further p g) l) s (behind n (further p g) g l) c)

behind_size : (n : ℕ) (p : Place) (g l : ℕ) → length (behind n p g l) ≡ n
behind_size zero p g l = refl
behind_size (suc n) p g l = let h = behind_size n (further p g) g l in omega (arith, h)

-- the spot is so many tokens after the other one, in its file
pub record IsBehind (gap : ℕ) (s t : Spot) : Type 0 where
  pub file : t.place.file ≡ s.place.file
  pub at : t.place.at ≡ s.place.at + gap

-- among one more the next one of each
next_in : (n : ℕ) (p : Place) (g l : ℕ) (s : Spot) → Contains (behind n p g l) s → (t : Spot) × Contains (behind (suc n) p g l) t × IsBehind g s t
next_in zero p g l s c = absurd (Contains-nil s c)
next_in (suc n) p g l s c =
    let q = further p g in
    let x = spot_at q l in
    let y = spot_at (further q g) l in
    ⊎_elim
    (λ is. (
      y,
      Contains-there x y (behind (suc n) q g l) (Contains-here y (behind n (further q g) g l)),
      subst (λ (z : Spot). IsBehind g z y) is (record { file = refl; at = refl }),
    ))
    (λ later. let (t, t_in, t_is) = next_in n q g l s later in (t, Contains-there x t (behind (suc n) q g l) t_in, t_is))
    (Contains-cases x s (behind n q g l) c)

next_of : (r : Row) (s : Spot) → Contains (row_spots r) s → (t : Spot) × Contains (behind (suc r.others) r.first.place r.gap r.left) t × IsBehind r.gap s t
next_of r s c =
    let p = r.first.place in
    let y = spot_at (further p r.gap) r.left in
    ⊎_elim
    (λ is. (
      y,
      Contains-here y (behind r.others (further p r.gap) r.gap r.left),
      subst (λ (z : Spot). IsBehind r.gap z y) is (record { file = refl; at = refl }),
    ))
    (λ later. next_in r.others p r.gap r.left s later)
    (Contains-cases r.first s (behind r.others p r.gap r.left) c)

one_more : (n g a : ℕ) → a + g + (n + 1) * g ≡ a + (suc n + 1) * g
one_more n g a =
    let two : suc n + 1 ≡ n + 1 + 1 = omega arith in
    let m = add-mul (n + 1) 1 g in
    let e : (suc n + 1) * g ≡ (n + 1 + 1) * g = ap (λ (k : ℕ). k * g) two in
    let o = one-mul g in
    omega (arith, m, e, o)

-- the last of one more
behind_push : (n : ℕ) (p : Place) (g l : ℕ) → behind (suc n) p g l ≡ behind n p g l ++ spot_at (further p ((n + 1) * g)) l ∷ []
behind_push zero p g l =
    let o = one-mul g in
    let e : g ≡ (0 + 1) * g = omega (arith, o) in
    ap (λ (k : ℕ). spot_at (further p k) l ∷ []) e
behind_push (suc n) p g l =
    let q = further p g in
    ap (λ (ss : List Spot). spot_at q l ∷ ss) (behind_push n q g l)
    ∙ ap (λ (k : ℕ). spot_at q l ∷ (behind n q g l ++ spot_at (record { file = p.file; at = k }) l ∷ [])) (one_more n g p.at)

-- ---- rows of several, after which the next one begins

-- each spot of such a row has one after it by the gap
followed_in : (depth : ℕ) (rows : List Row) (k : ℕ) (d : Row) (s : Spot) → k < length rows → IsFollowed depth rows k d → Contains (row_spots (get_or rows k d)) s → (t : Spot) × Contains (all_of rows) t × IsBehind (get_or rows k d).gap s t
followed_in depth rows k d s lt is c =
    let r : Row = get_or rows k d in
    let z : Row = get_or rows (k + 1) d in
    let p = r.first.place in
    let past = spot_at (further p ((r.others + 1) * r.gap)) r.left in
    let (t, t_in, t_is) = next_of r s c in
    ⊎_elim
    (λ here. (t, in_all rows r t (Contains-get_or rows k d lt) (Contains-there r.first t (behind r.others p r.gap r.left) here), t_is))
    (λ last. (
      z.first,
      first_in rows z (Contains-get_or rows (k + 1) d is.within),
      record {
        file = sym is.file ∙ ap (λ (w : Spot). w.place.file) last ∙ t_is.file;
        at = sym is.at ∙ ap (λ (w : Spot). w.place.at) last ∙ t_is.at;
      },
    ))
    (Contains-push_cases (behind r.others p r.gap r.left) past t (subst (λ (ss : List Spot). Contains ss t) (behind_push r.others p r.gap r.left) t_in))

-- the token after a word is one of the word at the next spot, if the word reaches over the gap
token_by_gap : {T : Type 0} (corpus : List (List T)) (n gap : ℕ) (s t : Spot) → IsBehind gap s t → gap ≤ n → token_behind corpus s.place n ≡ token_behind corpus t.place (n - gap)
token_by_gap corpus n gap s t is low =
    let at : s.place.at + n ≡ t.place.at + (n - gap) = omega (arith, is.at, low) in
    ap₂ (λ f k. slice_get (file_at corpus f) k) (sym is.file) at

at_index : {T : Type 0} (corpus : List (List T)) (rows : List Row) (n k : ℕ) (d : Row) (s : Spot) → AreAlike corpus n (all_of rows) → AreRows n rows → k < length rows → Contains (row_spots (get_or rows k d)) s → token_behind corpus s.place n ≡ token_behind corpus (get_or rows k d).first.place n
at_index corpus rows n k d s alike are within c =
    let r : Row = get_or rows k d in
    ⊎_elim
    (λ is. ap (λ (z : Spot). token_behind corpus z.place n) (sym is))
    (λ later.
    let some = some_behind r.others r.first.place r.gap r.left s later in
    let follows = are k d within some in
    let (t, t_in, t_is) = followed_in n rows k d s within follows c in
    let (u, u_in, u_is) = followed_in n rows k d r.first within follows (Contains-here r.first (behind r.others r.first.place r.gap r.left)) in
    token_by_gap corpus n r.gap s t t_is follows.steps.reach
    ∙ alike t u (n - r.gap) t_in u_in (omega (arith, follows.steps.reach, follows.steps.some))
    ∙ sym (token_by_gap corpus n r.gap r.first u u_is follows.steps.reach))
    (Contains-cases r.first s (behind r.others r.first.place r.gap r.left) c)

-- all spots of a row go on by one token
pub goes_on : {T : Type 0} (corpus : List (List T)) (rows : List Row) (n : ℕ) → AreAlike corpus n (all_of rows) → AreRows n rows → (r : Row) (s : Spot) → Contains rows r → Contains (row_spots r) s → token_behind corpus s.place n ≡ token_behind corpus r.first.place n
goes_on corpus rows n alike are r s (k, within, at) c =
    subst (λ (z : Row). Contains (row_spots z) s → token_behind corpus s.place n ≡ token_behind corpus z.first.place n) at (at_index corpus rows n k r s alike are within) c

pub rows_one : {T : Type 0} (corpus : List (List T)) (rows : List Row) (n : ℕ) → AreAlike corpus n (all_of rows) → AreRows n rows → AreOne (λ r. token_behind corpus r.first.place n) rows → AreOne (λ s. token_behind corpus s.place n) (all_of rows)
rows_one corpus rows n alike are (t, one) = (
  t,
  λ k d within.
      let s : Spot = get_or (all_of rows) k d in
      let (r, r_in, s_in) = from_all rows s (Contains-get_or (all_of rows) k d within) in
      goes_on corpus rows n alike are r s r_in s_in ∙ All-contains (λ (z : Row). token_behind corpus z.first.place n ≡ Some t) rows r one r_in,
)

-- two spots or more are in two rows or more
pub rows_several : (depth : ℕ) (rows : List Row) → AreRows depth rows → 2 ≤ length (all_of rows) → 2 ≤ length rows
rows_several depth [] are several = absurd (omega (arith, several))
rows_several depth (r ∷ []) are several =
    ⊎_elim
    (λ some. let h = (are 0 r (omega arith) some).within in absurd (omega (arith, h)))
    (λ none.
    let e : r.others ≡ 0 = omega (arith, none) in
    let size = ap length (ap (λ (ss : List Spot). ss ++ []) (alone_spots r e)) in
    absurd (omega (arith, size, several)))
    (cases_lt 0 r.others)
rows_several depth (r ∷ q ∷ rs) are several = omega arith

pub rows_each : (depth : ℕ) (rows : List Row) → AreRows depth rows → All (IsRow depth) rows
rows_each depth rows are k d within some = (are k d within some).steps

-- as a word grows
steps_deeper : (depth : ℕ) (r : Row) → IsSteps depth r → IsSteps (depth + 1) r
steps_deeper depth r is = record { some = is.some; reach = omega (arith, is.reach); inside = is.inside }

pub each_deeper : (depth : ℕ) (rows : List Row) → All (IsRow depth) rows → All (IsRow (depth + 1)) rows
each_deeper depth rows all k d within some = steps_deeper depth (get_or rows k d) (all k d within some)

pub rows_deeper : (depth : ℕ) (rows : List Row) → AreRows depth rows → AreRows (depth + 1) rows
rows_deeper depth rows are k d within some =
    let h = are k d within some in record { steps = steps_deeper depth (get_or rows k d) h.steps; within = h.within; file = h.file; at = h.at }

pub no_rows : (depth : ℕ) (rows : List Row) → rows ≡ [] → AreRows depth rows
no_rows depth rows none k d within some = let e = ap length none in absurd (omega (arith, e, within))

pub singles_are_rows : (depth : ℕ) (rows : List Row) → All (λ r. r.others ≡ 0) rows → AreRows depth rows
singles_are_rows depth rows single k d within some = let e = single k d within in absurd (omega (arith, e, some))

-- ---- as rows are made

followed_more : (depth : ℕ) (old more : List Row) (k : ℕ) (d : Row) → k < length old → IsFollowed depth old k d → IsFollowed depth (old ++ more) k d
followed_more depth old more k d below is =
    let size = length-append old more in
    let a = get_or_append_left old more d k below in
    let b = get_or_append_left old more d (k + 1) is.within in
    record {
      steps = subst (IsSteps depth) (sym a) is.steps;
      within = omega (arith, is.within, size);
      file = ap (λ (z : Row). z.first.place.file) a ∙ is.file ∙ sym (ap (λ (z : Row). z.first.place.file) b);
      at = ap (λ (z : Row). z.first.place.at + (z.others + 1) * z.gap) a ∙ is.at ∙ sym (ap (λ (z : Row). z.first.place.at) b);
    }

-- a row of one spot comes after others
alone_pushed : (depth : ℕ) (old : List Row) (r : Row) → r.others ≡ 0 → AreRows depth old → AreRows depth (old ++ r ∷ [])
alone_pushed depth old r one are k d within some =
    let size = length_push old r in
    ⊎_elim
    (λ below. followed_more depth old (r ∷ []) k d below (are k d below (subst (λ (z : Row). 0 < z.others) (get_or_append_left old (r ∷ []) d k below) some)))
    (λ past.
    let e : k ≡ length old = omega (arith, past, within, size) in
    let at : get_or (old ++ r ∷ []) k d ≡ r = ap (λ (j : ℕ). get_or (old ++ r ∷ []) j d) e ∙ get_or-append_seam old r [] d in
    let none = ap (λ (z : Row). z.others) at in
    absurd (omega (arith, none, one, some)))
    (cases_lt k (length old))

pub alone_added : (r : Row) (old new : List Row) → r.others ≡ 0 → new ≡ old ++ r ∷ [] → AddsRow r old new
alone_added r old new one is = (
  ap all_of is ∙ all_push old r,
  λ depth row are. subst (AreRows depth) (sym is) (alone_pushed depth old r one are),
)

-- a row and the one that begins after it
two_pushed : (depth : ℕ) (old : List Row) (front last : Row) → IsSteps depth front → last.others ≡ 0 → front.first.place.file ≡ last.first.place.file → front.first.place.at + (front.others + 1) * front.gap ≡ last.first.place.at → AreRows depth old → AreRows depth ((old ++ front ∷ []) ++ last ∷ [])
two_pushed depth old front last steps one file at are k d within some =
    let mid = old ++ front ∷ [] in
    let new = mid ++ last ∷ [] in
    let mid_size = length_push old front in
    let new_size = length_push mid last in
    ⊎_elim
    (λ in_mid. ⊎_elim
    (λ below.
    let a = get_or_append_left mid (last ∷ []) d k in_mid in
    let b = get_or_append_left old (front ∷ []) d k below in
    followed_more depth mid (last ∷ []) k d in_mid (followed_more depth old (front ∷ []) k d below (are k d below (subst (λ (z : Row). 0 < z.others) (a ∙ b) some))))
    (λ ge.
    let e : k ≡ length old = omega (arith, ge, in_mid, mid_size) in
    let next : k + 1 ≡ length mid = omega (arith, e, mid_size) in
    let here : get_or new k d ≡ front = get_or_append_left mid (last ∷ []) d k in_mid ∙ ap (λ (j : ℕ). get_or mid j d) e ∙ get_or-append_seam old front [] d in
    let there : get_or new (k + 1) d ≡ last = ap (λ (j : ℕ). get_or new j d) next ∙ get_or-append_seam mid last [] d in
    record {
      steps = subst (IsSteps depth) (sym here) steps;
      within = omega (arith, next, new_size);
      file = ap (λ (z : Row). z.first.place.file) here ∙ file ∙ sym (ap (λ (z : Row). z.first.place.file) there);
      at = ap (λ (z : Row). z.first.place.at + (z.others + 1) * z.gap) here ∙ at ∙ sym (ap (λ (z : Row). z.first.place.at) there);
    })
    (cases_lt k (length old)))
    (λ past.
    let e : k ≡ length mid = omega (arith, past, within, new_size) in
    let is : get_or new k d ≡ last = ap (λ (j : ℕ). get_or new j d) e ∙ get_or-append_seam mid last [] d in
    let none = ap (λ (z : Row). z.others) is in
    absurd (omega (arith, none, one, some)))
    (cases_lt k (length mid))

-- all but the last spot of a row, and that one
abbrev pub front_of : Row → Row
front_of r = record { first = r.first; others = r.others - 1; gap = r.gap; left = r.left }

abbrev pub last_of : Row → ℕ → Row
last_of r at = record { first = spot_at (record { file = r.first.place.file; at = at }) r.left; others = 0; gap = 0; left = 0 }

front_end : (r : Row) (at : ℕ) → 0 < r.others → at ≡ r.first.place.at + r.others * r.gap → at ≡ r.first.place.at + (r.others - 1 + 1) * r.gap
front_end r at some is =
    let same : r.others ≡ r.others - 1 + 1 = omega (arith, some) in
    is ∙ ap (λ (j : ℕ). r.first.place.at + j * r.gap) same

front_steps : (depth : ℕ) (r : Row) → IsSteps depth r → IsSteps depth (front_of r)
front_steps depth r is =
    let le : r.others - 1 ≤ r.others = omega arith in
    let h = mul-le-mul_right r.gap le in
    record { some = is.some; reach = is.reach; inside = omega (arith, h, is.inside) }

row_split : (r : Row) (at : ℕ) → 0 < r.others → at ≡ r.first.place.at + r.others * r.gap → row_spots (front_of r) ++ row_spots (last_of r at) ≡ row_spots r
row_split r at some is =
    let m = r.others - 1 in
    let p = r.first.place in
    let e : suc m ≡ r.others = omega (arith, some) in
    ap (λ (k : ℕ). r.first ∷ (behind m p r.gap r.left ++ spot_at (record { file = p.file; at = k }) r.left ∷ [])) (front_end r at some is)
    ∙ ap (λ (ss : List Spot). r.first ∷ ss) (sym (behind_push m p r.gap r.left))
    ∙ ap (λ (j : ℕ). r.first ∷ behind j p r.gap r.left) e

pub row_added : (r : Row) (at : ℕ) (old mid new : List Row) → 0 < r.others → at ≡ r.first.place.at + r.others * r.gap → mid ≡ old ++ front_of r ∷ [] → new ≡ mid ++ last_of r at ∷ [] → AddsRow r old new
row_added r at old mid new some is mid_is new_is = (
  ap all_of new_is
      ∙ all_push mid (last_of r at)
      ∙ ap (λ (ss : List Spot). ss ++ row_spots (last_of r at)) (ap all_of mid_is ∙ all_push old (front_of r))
      ∙ append_assoc (all_of old) (row_spots (front_of r)) (row_spots (last_of r at))
      ∙ ap (λ (ss : List Spot). all_of old ++ ss) (row_split r at some is),
  λ depth row are. subst (AreRows depth) (sym (new_is ∙ ap (λ (rs : List Row). rs ++ last_of r at ∷ []) mid_is))
      (two_pushed depth old (front_of r) (last_of r at) (front_steps depth r (row some)) refl refl (sym (front_end r at some is)) are),
)

-- a row of two
pub row_of_two : (first second : Spot) (gap depth : ℕ) → second.place.file ≡ first.place.file → first.place.at + gap ≡ second.place.at → 0 < gap → gap ≤ depth → second.place.at < 2 ^ 32 → IsRowOf depth (first ∷ second ∷ []) (record { first = first; others = 1; gap = gap; left = second.left })
row_of_two first second gap depth file at some reach inside =
    let o = one-mul gap in
    record {
      spots_are = ap₂ (λ (f k : ℕ). first ∷ spot_at (record { file = f; at = k }) second.left ∷ []) (sym file) at;
      row = λ several. record { some = some; reach = reach; inside = omega (arith, o, at, inside) };
    }

-- a row and one spot more
pub row_grown : (r : Row) (spot : Spot) (depth : ℕ) → IsSteps depth r → spot.place.file ≡ r.first.place.file → spot.left ≡ r.left → spot.place.at ≡ r.first.place.at + r.others * r.gap + r.gap → spot.place.at < 2 ^ 32 → IsRowOf depth (row_spots r ++ spot ∷ []) (record { first = r.first; others = r.others + 1; gap = r.gap; left = r.left })
row_grown r spot depth steps file left at inside =
    let p = r.first.place in
    let m = add-mul r.others 1 r.gap in
    let o = one-mul r.gap in
    let past : p.at + (r.others + 1) * r.gap ≡ spot.place.at = omega (arith, m, o, at) in
    let e : r.others + 1 ≡ suc r.others = omega arith in
    let same : spot_at (record { file = p.file; at = p.at + (r.others + 1) * r.gap }) r.left ≡ spot =
    ap₂ (λ (f k : ℕ). spot_at (record { file = f; at = k }) r.left) (sym file) past ∙ ap (λ (n : ℕ). spot_at spot.place n) (sym left) in
    record {
      spots_are = ap (λ (j : ℕ). r.first ∷ behind j p r.gap r.left) e
          ∙ ap (λ (ss : List Spot). r.first ∷ ss) (behind_push r.others p r.gap r.left)
          ∙ ap (λ (s : Spot). r.first ∷ (behind r.others p r.gap r.left ++ s ∷ [])) same;
      row = λ several. record { some = steps.some; reach = steps.reach; inside = omega (arith, past, inside) };
    }

-- a number is at most its product with one that isn't 0
pub at_most_times : (a g : ℕ) → 0 < g → a ≤ a * g
at_most_times a g some =
    let e : g ≡ (g - 1) + 1 = omega (arith, some) in
    let h : a * g ≡ a * (g - 1) + a = ap (λ (k : ℕ). a * k) e ∙ mul-add a (g - 1) 1 ∙ ap (λ (k : ℕ). a * (g - 1) + k) (mul-one a) in
    omega (arith, h)

-- ---- the marks before the spots

pub left_of_rows : (left : ℕ) (rows : List Row) → All (HasLeft left) rows → All (λ s. s.left ≡ left) (all_of rows)
left_of_rows left rows all k d within =
    let s : Spot = get_or (all_of rows) k d in
    let (r, r_in, s_in) = from_all rows s (Contains-get_or (all_of rows) k d within) in
    let has = All-contains (HasLeft left) rows r all r_in in
    ⊎_elim
    (λ is. sym (ap (λ (z : Spot). z.left) is) ∙ has.0)
    (λ later. behind_left r.others r.first.place r.gap r.left s later ∙ has.1 (some_behind r.others r.first.place r.gap r.left s later))
    (Contains-cases r.first s (behind r.others r.first.place r.gap r.left) s_in)

pub left_of_spots : (left : ℕ) (rows : List Row) → All (λ s. s.left ≡ left) (all_of rows) → All (HasLeft left) rows
left_of_spots left rows all k d within =
    let r : Row = get_or rows k d in
    let r_in = Contains-get_or rows k d within in (
      All-contains (λ (z : Spot). z.left ≡ left) (all_of rows) r.first all (first_in rows r r_in),
      λ some.
          let s = spot_at (further r.first.place r.gap) r.left in
          All-contains (λ (z : Spot). z.left ≡ left) (all_of rows) s all
          (in_all rows r s r_in (Contains-there r.first s (behind r.others r.first.place r.gap r.left) (behind_here r.others r.first.place r.gap r.left some))),
    )

pub first_of_rows : (rows : List Row) (d : Row) (e : Spot) → 0 < length rows → (get_or rows 0 d).first ≡ get_or (all_of rows) 0 e
first_of_rows [] d e some = absurd (omega (arith, some))
first_of_rows (r ∷ rs) d e some = refl

pub several_in_one : (rows : List Row) (d : Row) → length rows ≡ 1 → (0 < (get_or rows 0 d).others) ↔ (2 ≤ length (all_of rows))
several_in_one [] d one = absurd (omega (arith, one))
several_in_one (r ∷ []) d one =
    let b = behind r.others r.first.place r.gap r.left in
    let size = behind_size r.others r.first.place r.gap r.left in
    let e = length-append b [] in
    (λ some. omega (arith, size, e, some), λ several. omega (arith, size, e, several))
several_in_one (r ∷ q ∷ rs) d one = absurd (omega (arith, one))
