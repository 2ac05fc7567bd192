-- Windows of different keys are together at most all windows.
use Rattle.std.proofs.Common.{◌≡◌, ◌≢◌, ℕ, ◌+◌, ◌<◌, ◌≤◌, Bool, true, false, List, [], ◌∷◌, length, get_or, take, Option, Some, None, is_some, refl, sym, ap, ◌∙◌, ⊎_elim, arith, true≢false, eqb, eqb-true, eq-eqb}
use Rattle.std.specs.Prelude.{AllPairs, Contains, filter, sum_by}
use Rattle.std.proofs.lemmas.Bool.{cases_Bool}
use Rattle.std.proofs.lemmas.List.{take_more}
use Rattle.std.specs.List.{list_any}
use Rattle.std.proofs.lemmas.List.Folds.{Any-from_list_any, list_any-from_Any}
use Rattle.std.proofs.lemmas.List.Sums.{sum_by-cons, sum_by_push, sum_by-take-le, length-filter, count_by-le-length}
use Rattle.std.proofs.lemmas.List.Kept.{AllPairs-filter}
use Rattle.std.proofs.lemmas.Option.{same_Some}
use Rattle.cq_base.specs.declared.group.Place.{Place}
use Rattle.cq_clones.specs.Lists.{AreAllInOrder}
use Rattle.cq_clones.specs.Groups.{IsBefore}
use Rattle.cq_base.proofs.Lists.{Contains-here, Contains-there, Contains-filter, Contains-from_filter, AllPairs-head, AllPairs-tail}
use Rattle.cq_clones.specs.Windows.{key_at, HasKey}
use Rattle.cq_groups.specs.Listing.{HasOneOf}

abbrev pub is_number : Option ℕ → ℕ → Bool
is_number None k = false
is_number (Some j) k = eqb j k

pub is_number-says : (o : Option ℕ) (k : ℕ) → is_number o k ≡ true → o ≡ Some k
is_number-says None k h = absurd (true≢false (sym h))
is_number-says (Some j) k h = ap Some (eqb-true j k h)

pub is_number-from : (o : Option ℕ) (k : ℕ) → o ≡ Some k → is_number o k ≡ true
is_number-from None k h = absurd (true≢false (sym (ap is_some h)))
is_number-from (Some j) k h = eq-eqb j k (same_Some _ _ h)

-- the windows with a key
abbrev pub with_key : List (List ℕ) → List Place → ℕ → List Place
with_key keys windows k = filter (λ p. is_number (key_at keys p) k) windows

abbrev pub count : List (List ℕ) → List Place → ℕ → ℕ
count keys windows k = length (with_key keys windows k)

pub with_key-is : (keys : List (List ℕ)) (ks : List ℕ) (windows : List Place) (k : ℕ) → Contains ks k → AreAllInOrder IsBefore (HasOneOf keys ks) windows → AreAllInOrder IsBefore (HasKey keys k) (with_key keys windows k)
with_key-is keys ks windows k (i, within, at) are = record {
  ordered = AllPairs-filter IsBefore (λ p. is_number (key_at keys p) k) windows are.ordered;
  each = λ p. (
    λ c. is_number-says (key_at keys p) k (Contains-from_filter (λ q. is_number (key_at keys q) k) windows p c).1,
    λ has. Contains-filter (λ q. is_number (key_at keys q) k) windows p ((are.each p).1 (i, k, within, at, has)) (is_number-from (key_at keys p) k has),
  );
}

-- the windows with one of some keys are among all windows
pub windows_among : (keys : List (List ℕ)) (ks : List ℕ) (windows : List Place) → AreAllInOrder IsBefore (λ p. (k : ℕ) × HasKey keys k p) windows → (some : List Place) × AreAllInOrder IsBefore (HasOneOf keys ks) some × (length some ≤ length windows)
windows_among keys ks windows are =
    let test : Place → Bool = λ p. list_any (is_number (key_at keys p)) ks in
    let size = length-filter test windows in
    let few = count_by-le-length test windows in (
      filter test windows,
      record {
        ordered = AllPairs-filter IsBefore test windows are.ordered;
        each = λ p. (
          λ c. let (i, k, within, at, is) = Any-from_list_any (is_number (key_at keys p)) ks (Contains-from_filter test windows p c).1 in (i, k, within, at, is_number-says (key_at keys p) k is),
          λ (i, k, within, at, has). Contains-filter test windows p ((are.each p).1 (k, has)) (list_any-from_Any (is_number (key_at keys p)) ks (i, k, within, at, is_number-from (key_at keys p) k has)),
        );
      },
      omega (arith, size, few),
    )

abbrev one : Bool → ℕ
one true = 1
one false = 0

none_of : (j : ℕ) (ks : List ℕ) → ((k : ℕ) → Contains ks k → j ≢ k) → sum_by (λ k. one (eqb j k)) ks ≡ 0
none_of j [] differ = refl
none_of j (k ∷ ks) differ =
    let rest = none_of j ks (λ i c. differ i (Contains-there k i ks c)) in
    let e = sum_by-cons (λ i. one (eqb j i)) k ks in
    ⊎_elim
    (λ yes. absurd (differ k (Contains-here k ks) (eqb-true j k yes)))
    (λ nay. let z : one (eqb j k) ≡ 0 = ap one nay in omega (arith, e, rest, z))
    (cases_Bool (eqb j k))

at_most_one : (o : Option ℕ) (ks : List ℕ) → AllPairs (λ a b. a < b) ks → sum_by (λ k. one (is_number o k)) ks ≤ 1
at_most_one o [] rising = omega arith
at_most_one None (k ∷ ks) rising =
    let rest = at_most_one None ks (AllPairs-tail (λ a b. a < b) k ks rising) in
    let e = sum_by-cons (λ i. one (is_number None i)) k ks in omega (arith, e, rest)
at_most_one (Some j) (k ∷ ks) rising =
    let e = sum_by-cons (λ i. one (eqb j i)) k ks in
    ⊎_elim
    (λ yes.
    let same : j ≡ k = eqb-true j k yes in
    let none = none_of j ks (λ i c is. let lt = AllPairs-head (λ a b. a < b) k i ks rising c in omega (arith, lt, same, is)) in
    let z : one (eqb j k) ≡ 1 = ap one yes in omega (arith, e, none, z))
    (λ nay.
    let rest = at_most_one (Some j) ks (AllPairs-tail (λ a b. a < b) k ks rising) in
    let z : one (eqb j k) ≡ 0 = ap one nay in omega (arith, e, rest, z))
    (cases_Bool (eqb j k))

sum_split : (f h : ℕ → ℕ) (ks : List ℕ) → sum_by (λ k. f k + h k) ks ≡ sum_by f ks + sum_by h ks
sum_split f h [] = refl
sum_split f h (k ∷ ks) =
    let a = sum_by-cons (λ i. f i + h i) k ks in let b = sum_by-cons f k ks in let c = sum_by-cons h k ks in let r = sum_split f h ks in omega (arith, a, b, c, r)

sum_same : (f h : ℕ → ℕ) (ks : List ℕ) → ((k : ℕ) → f k ≡ h k) → sum_by f ks ≡ sum_by h ks
sum_same f h [] same = refl
sum_same f h (k ∷ ks) same =
    let a = sum_by-cons f k ks in let b = sum_by-cons h k ks in let r = sum_same f h ks same in let e = same k in omega (arith, a, b, r, e)

count_more : (keys : List (List ℕ)) (p : Place) (windows : List Place) (k : ℕ) → count keys (p ∷ windows) k ≡ one (is_number (key_at keys p) k) + count keys windows k
count_more keys p windows k =
    ⊎_elim
    (λ yes. rw yes (omega arith))
    (λ nay. rw nay (omega arith))
    (cases_Bool (is_number (key_at keys p) k))

pub counts_within : (keys : List (List ℕ)) (ks : List ℕ) (windows : List Place) → AllPairs (λ a b. a < b) ks → sum_by (count keys windows) ks ≤ length windows
counts_within keys ks [] rising = let e = zeros ks in omega (arith, e)
  where
    zeros : (ks : List ℕ) → sum_by (count keys []) ks ≡ 0
    zeros [] = refl
    zeros (k ∷ ks) = let e = sum_by-cons (count keys []) k ks in let r = zeros ks in omega (arith, e, r)
counts_within keys ks (p ∷ windows) rising =
    let rest = counts_within keys ks windows rising in
    let here = at_most_one (key_at keys p) ks rising in
    let e = sum_same (count keys (p ∷ windows)) (λ k. one (is_number (key_at keys p) k) + count keys windows k) ks (count_more keys p windows) in
    let f = sum_split (λ k. one (is_number (key_at keys p) k)) (count keys windows) ks in
    omega (arith, rest, here, e, f)

-- the first `i` keys, and one more
pub count_next : (f : ℕ → ℕ) (ks : List ℕ) (i k : ℕ) → i < length ks → k ≡ get_or ks i 0 → sum_by f (take (i + 1) ks) ≡ sum_by f (take i ks) + f k
count_next f ks i k lt read = ap (sum_by f) (take_more ks i 0 lt) ∙ sum_by_push f (take i ks) (get_or ks i 0) ∙ ap (λ n. sum_by f (take i ks) + f n) (sym read)

pub first_counts_within : (keys : List (List ℕ)) (ks : List ℕ) (windows : List Place) (i : ℕ) → AllPairs (λ a b. a < b) ks → sum_by (count keys windows) (take i ks) ≤ length windows
first_counts_within keys ks windows i rising =
    let a = sum_by-take-le (count keys windows) ks i in let b = counts_within keys ks windows rising in omega (arith, a, b)
