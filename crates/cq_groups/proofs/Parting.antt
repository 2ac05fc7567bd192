-- Keys in order, parted into those that are there more than once and the others.
use Rattle.std.proofs.Common.{◌≡◌, ◌⊎◌, ℕ, zero, suc, ◌+◌, ◌-◌, ◌<◌, ◌≤◌, cond, eqb, eqb-true, eq-eqb, List, [], ◌∷◌, ◌++◌, length, get_or, take, slice_get, Some, refl, sym, ap, ◌∙◌, subst, inl, inr, ⊎_elim, arith, length-take}
use Rattle.std.specs.Prelude.{Contains, slice_index, sum_by}
use Rattle.std.specs.List.Sorted.{IsNonDecreasing, IsPermutation}
use Rattle.std.proofs.lemmas.Bool.{cases_Bool, cases_lt}
use Rattle.std.proofs.lemmas.List.{get_or-take, get_or_default, length_push, take_all, take_more}
use Rattle.std.proofs.lemmas.List.Elements.{Contains-get_or}
use Rattle.std.proofs.lemmas.List.Sorted.{IsPermutation-sym, Contains-permutation, sum_by-IsPermutation}
use Rattle.std.proofs.lemmas.List.Sums.{sum_by-append, sum_by-cons, sum_by_push}
use Rattle.std.proofs.lemmas.Option.{same_Some, slice_get-get_or, get_or_from_slice_get, slice_get_within}
use Rattle.cq_clones.specs.Groups.{file_at}
use Rattle.cq_clones.proofs.InOrder.{in_order_same, in_order_none, in_order_push, take_more_cases, take_more_left, take_more_here}
use Rattle.cq_base.proofs.Lists.{Contains-nil}
use Rattle.cq_groups.specs.Listing.{IsKey, IsRepeatedKey, AreAllRising, AreSoMany, GoesOn, times_in}
use Rattle.cq_groups.proofs.KeyLists.{AreKeysUpto, keys_none, keys_more, keys_all, one_list}

-- ---- the walk along the keys in order

-- one of the first `n` numbers is this one, and the number after it is equal
abbrev pub IsRepeatedUpto : List ℕ → ℕ → ℕ → Type 0
IsRepeatedUpto xs n k = (j : ℕ) × (j < n) × (j + 1 < length xs) × (slice_index xs j ≡ k) × (slice_index xs (j + 1) ≡ k)

-- what the walk has found among the first `n`
pub record ArePartedUpto (xs : List ℕ) (n : ℕ) (repeated : List ℕ) (lone : ℕ) : Type 0 where
  pub repeated_are : AreAllRising (IsRepeatedUpto xs n) repeated
  pub different : List ℕ
  pub different_are : AreAllRising (Contains (take n xs)) different
  pub number : length different ≡ length repeated + lone
  pub few : lone ≤ n

pub parted_none : (xs repeated : List ℕ) → repeated ≡ [] → ArePartedUpto xs 0 repeated 0
parted_none xs repeated none = subst (λ (ks : List ℕ). ArePartedUpto xs 0 ks 0) (sym none) (record {
  repeated_are = in_order_none (λ a b. a < b) (IsRepeatedUpto xs 0) (λ k (j, less, inside, is, next). omega (arith, less));
  different = [];
  different_are = in_order_none (λ a b. a < b) (Contains (take 0 xs)) (λ k c. Contains-nil k c);
  number = refl;
  few = omega arith;
})

-- where a key doesn't go on, all keys before it are smaller
smaller : (xs : List ℕ) (i m : ℕ) → IsNonDecreasing xs → i < length xs → (GoesOn xs i → ⊥) → m < i → slice_index xs m < slice_index xs i
smaller xs i m rising within first less =
    let a : slice_index xs m ≤ slice_index xs (i - 1) = rising m (i - 1) 0 (omega (arith, less)) (omega (arith, less, within)) in
    let b : slice_index xs (i - 1) ≤ slice_index xs i = rising (i - 1) i 0 (omega arith) within in
    ⊎_elim
    (λ lt. omega (arith, a, lt))
    (λ ge. absurd (first (omega (arith, less), within, omega (arith, b, ge))))
    (cases_lt (slice_index xs (i - 1)) (slice_index xs i))

smaller_key : (xs : List ℕ) (i k : ℕ) → IsNonDecreasing xs → i < length xs → (GoesOn xs i → ⊥) → IsRepeatedUpto xs i k → k < slice_index xs i
smaller_key xs i k rising within first (j, less, inside, is, next) = let s = smaller xs i j rising within first less in omega (arith, s, is)

smaller_taken : (xs : List ℕ) (i k : ℕ) → IsNonDecreasing xs → i < length xs → (GoesOn xs i → ⊥) → Contains (take i xs) k → k < slice_index xs i
smaller_taken xs i k rising within first (m, inside, is) =
    ⊎_elim
    (λ less.
    let s = smaller xs i m rising within first less in
    let e : slice_index xs m ≡ k = get_or_default xs m 0 k (omega (arith, less, within)) ∙ sym (get_or-take i xs m k less) ∙ is in
    omega (arith, s, e))
    (λ ge. let len = length-take i xs in absurd (omega (arith, len, inside, ge)))
    (cases_lt m i)

more_taken : (xs ks : List ℕ) (i : ℕ) → IsNonDecreasing xs → i < length xs → (GoesOn xs i → ⊥) → AreAllRising (Contains (take i xs)) ks → AreAllRising (Contains (take (i + 1) xs)) (ks ++ slice_index xs i ∷ [])
more_taken xs ks i rising within first are =
    let x = slice_index xs i in
    let read : x ≡ get_or xs i x = get_or_default xs i 0 x within in
    in_order_push (λ a b. a < b) (Contains (take i xs)) (Contains (take (i + 1) xs)) ks x are
    (λ z c. smaller_taken xs i z rising within first c)
    (λ z c. take_more_left xs i x z within read c)
    (take_more_here xs i x within read)
    (λ z c. take_more_cases xs i x z within read c)

-- a key that goes on
pub parted_skip : (xs : List ℕ) (i : ℕ) (repeated : List ℕ) (lone : ℕ) → i < length xs → GoesOn xs i → ArePartedUpto xs i repeated lone → ArePartedUpto xs (i + 1) repeated lone
parted_skip xs i repeated lone within (some, inside, same) before =
    let x = slice_index xs i in
    let read : x ≡ get_or xs i x = get_or_default xs i 0 x within in
    record {
      repeated_are = in_order_same (λ a b. a < b) (IsRepeatedUpto xs i) (IsRepeatedUpto xs (i + 1)) repeated
          (λ k (j, less, inside, is, next). (j, omega (arith, less), inside, is, next))
          (λ k (j, less, inside, is, next). ⊎_elim
          (λ lt. (j, lt, inside, is, next))
          (λ ge.
          let e : i ≡ j = omega (arith, less, ge) in
          let here : x ≡ k = ap (slice_index xs) e ∙ is in
          let up : i - 1 + 1 ≡ i = omega (arith, some) in
          let back : slice_index xs (i - 1 + 1) ≡ k = ap (slice_index xs) up ∙ here in
          (i - 1, omega (arith, some), omega (arith, some, within), same ∙ here, back))
          (cases_lt j i))
          before.repeated_are;
      different = before.different;
      different_are = in_order_same (λ a b. a < b) (Contains (take i xs)) (Contains (take (i + 1) xs)) before.different
          (λ z c. take_more_left xs i x z within read c)
          (λ z c. ⊎_elim (λ h. h) (λ e. subst (Contains (take i xs)) (same ∙ e) (last_taken xs i some within)) (take_more_cases xs i x z within read c))
          before.different_are;
      number = before.number;
      few = let f = before.few in omega (arith, f);
    }
  where
    last_taken : (xs : List ℕ) (i : ℕ) → 0 < i → i < length xs → Contains (take i xs) (slice_index xs (i - 1))
    last_taken xs i some within =
        let len = length-take i xs in
        subst (Contains (take i xs)) (get_or-take i xs (i - 1) 0 (omega (arith, some))) (Contains-get_or (take i xs) (i - 1) 0 (omega (arith, len, some, within)))

-- a key that is there again after it
pub parted_repeated : (xs : List ℕ) (i : ℕ) (repeated : List ℕ) (lone : ℕ) → IsNonDecreasing xs → i < length xs → (GoesOn xs i → ⊥) → GoesOn xs (i + 1) → ArePartedUpto xs i repeated lone → ArePartedUpto xs (i + 1) (repeated ++ slice_index xs i ∷ []) lone
parted_repeated xs i repeated lone rising within first (some, inside, same) before =
    let x = slice_index xs i in
    let down : i + 1 - 1 ≡ i = omega arith in
    let again : slice_index xs (i + 1) ≡ x = sym same ∙ ap (slice_index xs) down in
    let one = length_push repeated x in
    let other = length_push before.different x in
    record {
      repeated_are = in_order_push (λ a b. a < b) (IsRepeatedUpto xs i) (IsRepeatedUpto xs (i + 1)) repeated x before.repeated_are
          (λ z h. smaller_key xs i z rising within first h)
          (λ z (j, less, inside, is, next). (j, omega (arith, less), inside, is, next))
          (i, omega arith, inside, refl, again)
          (λ z (j, less, inside, is, next). ⊎_elim
          (λ lt. inl (j, lt, inside, is, next))
          (λ ge. let e : i ≡ j = omega (arith, less, ge) in inr (ap (slice_index xs) e ∙ is))
          (cases_lt j i));
      different = before.different ++ x ∷ [];
      different_are = more_taken xs before.different i rising within first before.different_are;
      number = let n = before.number in omega (arith, n, one, other);
      few = let f = before.few in omega (arith, f);
    }

-- a key that is there once
pub parted_lone : (xs : List ℕ) (i : ℕ) (repeated : List ℕ) (lone : ℕ) → IsNonDecreasing xs → i < length xs → (GoesOn xs i → ⊥) → (GoesOn xs (i + 1) → ⊥) → ArePartedUpto xs i repeated lone → ArePartedUpto xs (i + 1) repeated (lone + 1)
parted_lone xs i repeated lone rising within first last before =
    let x = slice_index xs i in
    let other = length_push before.different x in
    record {
      repeated_are = in_order_same (λ a b. a < b) (IsRepeatedUpto xs i) (IsRepeatedUpto xs (i + 1)) repeated
          (λ k (j, less, inside, is, next). (j, omega (arith, less), inside, is, next))
          (λ k (j, less, inside, is, next). ⊎_elim
          (λ lt. (j, lt, inside, is, next))
          (λ ge.
          let e : i + 1 - 1 ≡ j = omega (arith, less, ge) in
          let f : i + 1 ≡ j + 1 = omega (arith, less, ge) in
          let is_here : slice_index xs (i + 1 - 1) ≡ k = ap (slice_index xs) e ∙ is in
          let is_next : slice_index xs (i + 1) ≡ k = ap (slice_index xs) f ∙ next in
          absurd (last (omega arith, omega (arith, inside, f), is_here ∙ sym is_next)))
          (cases_lt j i))
          before.repeated_are;
      different = before.different ++ x ∷ [];
      different_are = more_taken xs before.different i rising within first before.different_are;
      number = let n = before.number in omega (arith, n, other);
      few = let f = before.few in omega (arith, f);
    }

-- ---- how often a number is in a list

abbrev counts : ℕ → ℕ → ℕ
counts k x = cond (eqb x k) 1 0

times_cons : (x : ℕ) (xs : List ℕ) (k : ℕ) → times_in (x ∷ xs) k ≡ counts k x + times_in xs k
times_cons x xs k = sum_by-cons (λ z. cond (eqb z k) 1 0) x xs

counts_cases : (k x : ℕ) → ((x ≡ k) × (counts k x ≡ 1)) ⊎ (counts k x ≡ 0)
counts_cases k x = ⊎_elim (λ yes. inl (eqb-true x k yes, ap (λ b. cond b 1 0) yes)) (λ nay. inr (ap (λ b. cond b 1 0) nay)) (cases_Bool (eqb x k))

counts_here : (k x : ℕ) → x ≡ k → counts k x ≡ 1
counts_here k x is = ap (λ b. cond b 1 0) (eq-eqb x k is)

times_one : (xs : List ℕ) (k i : ℕ) → slice_get xs i ≡ Some k → 1 ≤ times_in xs k
times_one [] k i at = let w = slice_get_within [] i k at in absurd (omega (arith, w))
times_one (x ∷ xs) k zero at = let e = times_cons x xs k in let h = counts_here k x (same_Some _ _ at) in omega (arith, e, h)
times_one (x ∷ xs) k (suc i) at = let e = times_cons x xs k in let r = times_one xs k i at in omega (arith, e, r)

times_two : (xs : List ℕ) (k i j : ℕ) → i < j → slice_get xs i ≡ Some k → slice_get xs j ≡ Some k → 2 ≤ times_in xs k
times_two [] k i j less at then = let w = slice_get_within [] i k at in absurd (omega (arith, w))
times_two (x ∷ xs) k i zero less at then = absurd (omega (arith, less))
times_two (x ∷ xs) k zero (suc j) less at then = let e = times_cons x xs k in let h = counts_here k x (same_Some _ _ at) in let r = times_one xs k j then in omega (arith, e, h, r)
times_two (x ∷ xs) k (suc i) (suc j) less at then = let e = times_cons x xs k in let r = times_two xs k i j (omega (arith, less)) at then in omega (arith, e, r)

from_one : (xs : List ℕ) (k : ℕ) → 1 ≤ times_in xs k → (i : ℕ) × (slice_get xs i ≡ Some k)
from_one [] k some = let e : times_in [] k ≡ 0 = refl in absurd (omega (arith, some, e))
from_one (x ∷ xs) k some =
    let e = times_cons x xs k in
    ⊎_elim
    (λ (is, one). (0, ap Some is))
    (λ none. let (i, at) = from_one xs k (omega (arith, some, e, none)) in (suc i, at))
    (counts_cases k x)

from_two : (xs : List ℕ) (k : ℕ) → 2 ≤ times_in xs k → (i j : ℕ) × (i < j) × (slice_get xs i ≡ Some k) × (slice_get xs j ≡ Some k)
from_two [] k some = let e : times_in [] k ≡ 0 = refl in absurd (omega (arith, some, e))
from_two (x ∷ xs) k some =
    let e = times_cons x xs k in
    ⊎_elim
    (λ (is, one). let (j, at) = from_one xs k (omega (arith, some, e, one)) in (0, suc j, omega arith, ap Some is, at))
    (λ none. let (i, j, less, at, then) = from_two xs k (omega (arith, some, e, none)) in (suc i, suc j, omega (arith, less), at, then))
    (counts_cases k x)

-- ---- at the end of the walk

repeated_from : (xs : List ℕ) (n k : ℕ) → IsRepeatedUpto xs n k → 2 ≤ times_in xs k
repeated_from xs n k (j, less, inside, is, next) =
    times_two xs k j (j + 1) (omega arith) (slice_get-get_or xs j 0 (omega (arith, inside)) ∙ ap Some is) (slice_get-get_or xs (j + 1) 0 inside ∙ ap Some next)

repeated_to : (xs : List ℕ) (n k : ℕ) → IsNonDecreasing xs → length xs ≤ n → 2 ≤ times_in xs k → IsRepeatedUpto xs n k
repeated_to xs n k rising past twice =
    let (i, j, less, at, then) = from_two xs k twice in
    let within = slice_get_within xs j k then in
    let is : slice_index xs i ≡ k = get_or_from_slice_get xs i k 0 at in
    let later : slice_index xs j ≡ k = get_or_from_slice_get xs j k 0 then in
    let low : slice_index xs i ≤ slice_index xs (i + 1) = rising i (i + 1) 0 (omega arith) (omega (arith, less, within)) in
    let high : slice_index xs (i + 1) ≤ slice_index xs j = rising (i + 1) j 0 (omega (arith, less)) within in
    (i, omega (arith, less, within, past), omega (arith, less, within), is, omega (arith, low, high, is, later))

module _ (xs : List ℕ) (n : ℕ) (past : length xs ≤ n) (repeated : List ℕ) (lone : ℕ) (found : ArePartedUpto xs n repeated lone) where
  pub parted_repeats : IsNonDecreasing xs → AreAllRising (λ k. 2 ≤ times_in xs k) repeated
  parted_repeats rising =
      in_order_same (λ a b. a < b) (IsRepeatedUpto xs n) (λ k. 2 ≤ times_in xs k) repeated
      (λ k h. repeated_from xs n k h)
      (λ k h. repeated_to xs n k rising past h)
      found.repeated_are

  pub parted_number : AreSoMany (Contains xs) (length repeated + lone)
  parted_number = λ ks are.
      one_list (Contains xs) ks found.different are
      (subst (λ (ys : List ℕ). AreAllRising (Contains ys) found.different) (take_all n xs past) found.different_are)
      ∙ found.number

-- ---- the keys of all files

-- how often a key is in the files
abbrev times_among : List (List ℕ) → ℕ → ℕ
times_among keys k = sum_by (λ file. times_in file k) keys

among_cons : (f : List ℕ) (fs : List (List ℕ)) (k : ℕ) → times_among (f ∷ fs) k ≡ times_in f k + times_among fs k
among_cons f fs k = sum_by-cons (λ file. times_in file k) f fs

among_one : (keys : List (List ℕ)) (k a i : ℕ) → slice_get (file_at keys a) i ≡ Some k → 1 ≤ times_among keys k
among_one [] k a i at = let w = slice_get_within [] i k at in absurd (omega (arith, w))
among_one (f ∷ fs) k zero i at = let e = among_cons f fs k in let h = times_one f k i at in omega (arith, e, h)
among_one (f ∷ fs) k (suc a) i at = let e = among_cons f fs k in let r = among_one fs k a i at in omega (arith, e, r)

among_two : (keys : List (List ℕ)) (k a i b j : ℕ) → (a < b) ⊎ ((a ≡ b) × (i < j)) → slice_get (file_at keys a) i ≡ Some k → slice_get (file_at keys b) j ≡ Some k → 2 ≤ times_among keys k
among_two [] k a i b j before at then = let w = slice_get_within [] i k at in absurd (omega (arith, w))
among_two (f ∷ fs) k zero i zero j before at then =
    let less : i < j = ⊎_elim (λ h. absurd (omega (arith, h))) (λ h. h.1) before in
    let e = among_cons f fs k in let h = times_two f k i j less at then in omega (arith, e, h)
among_two (f ∷ fs) k zero i (suc b) j before at then =
    let e = among_cons f fs k in let h = times_one f k i at in let r = among_one fs k b j then in omega (arith, e, h, r)
among_two (f ∷ fs) k (suc a) i zero j before at then = absurd (⊎_elim (λ h. omega (arith, h)) (λ (same, less). omega (arith, same)) before)
among_two (f ∷ fs) k (suc a) i (suc b) j before at then =
    let e = among_cons f fs k in
    let r = among_two fs k a i b j (⊎_elim (λ h. inl (omega (arith, h))) (λ (same, less). inr (omega (arith, same), less)) before) at then in omega (arith, e, r)

from_among_one : (keys : List (List ℕ)) (k : ℕ) → 1 ≤ times_among keys k → (a i : ℕ) × (slice_get (file_at keys a) i ≡ Some k)
from_among_one [] k some = let e : times_among [] k ≡ 0 = refl in absurd (omega (arith, some, e))
from_among_one (f ∷ fs) k some =
    let e = among_cons f fs k in
    ⊎_elim
    (λ none. let (a, i, at) = from_among_one fs k (omega (arith, some, e, none)) in (suc a, i, at))
    (λ here. let (i, at) = from_one f k here in (0, i, at))
    (cases_lt (times_in f k) 1)

from_among_two : (keys : List (List ℕ)) (k : ℕ) → 2 ≤ times_among keys k → (a i b j : ℕ) × ((a < b) ⊎ ((a ≡ b) × (i < j))) × (slice_get (file_at keys a) i ≡ Some k) × (slice_get (file_at keys b) j ≡ Some k)
from_among_two [] k some = let e : times_among [] k ≡ 0 = refl in absurd (omega (arith, some, e))
from_among_two (f ∷ fs) k some =
    let e = among_cons f fs k in
    ⊎_elim
    (λ few. ⊎_elim
    (λ none.
    let (a, i, b, j, before, at, then) = from_among_two fs k (omega (arith, some, e, none)) in
    (suc a, i, suc b, j, ⊎_elim (λ h. inl (omega (arith, h))) (λ (same, less). inr (ap suc same, less)) before, at, then))
    (λ here.
    let (i, at) = from_one f k here in
    let (b, j, then) = from_among_one fs k (omega (arith, some, e, few)) in
    (0, i, suc b, j, inl (omega arith), at, then))
    (cases_lt (times_in f k) 1))
    (λ twice. let (i, j, less, at, then) = from_two f k twice in (0, i, 0, j, inr (refl, less), at, then))
    (cases_lt (times_in f k) 2)

-- the keys of the first files, each as often as it is there
pub record AreCountedUpto (keys : List (List ℕ)) (n : ℕ) (all : List ℕ) : Type 0 where
  pub upto : AreKeysUpto keys n all
  pub times : (k : ℕ) → times_in all k ≡ times_among (take n keys) k

pub counted_none : (keys : List (List ℕ)) (all : List ℕ) → all ≡ [] → AreCountedUpto keys 0 all
counted_none keys all none = record { upto = keys_none keys all none; times = λ k. ap (λ (xs : List ℕ). times_in xs k) none }

pub counted_more : (keys : List (List ℕ)) (n : ℕ) (old new here : List ℕ) → n < length keys → file_at keys n ≡ here → new ≡ old ++ here → AreCountedUpto keys n old → AreCountedUpto keys (n + 1) new
counted_more keys n old new here within file is before = record {
  upto = keys_more keys n old new here file is before.upto;
  times = λ k.
      let joined : times_in new k ≡ times_in old k + times_in here k = ap (λ (xs : List ℕ). times_in xs k) is ∙ sum_by-append (λ z. cond (eqb z k) 1 0) old here in
      let more : times_among (take (n + 1) keys) k ≡ times_among (take n keys) k + times_in (file_at keys n) k = ap (λ (fs : List (List ℕ)). times_among fs k) (take_more keys n [] within) ∙ sum_by_push (λ (f : List ℕ). times_in f k) (take n keys) (file_at keys n) in
      let same : times_in (file_at keys n) k ≡ times_in here k = ap (λ (xs : List ℕ). times_in xs k) file in
      let t = before.times k in omega (arith, joined, more, same, t);
}

pub counted_sorted : (keys : List (List ℕ)) (n : ℕ) (all sorted : List ℕ) → IsPermutation all sorted → AreCountedUpto keys n all → AreCountedUpto keys n sorted
counted_sorted keys n all sorted moved counted = record {
  upto = λ k. (
    λ c. (counted.upto k).0 (Contains-permutation sorted all k (IsPermutation-sym all sorted moved) c),
    λ there. Contains-permutation all sorted k moved ((counted.upto k).1 there),
  );
  times = λ k. sum_by-IsPermutation (λ z. cond (eqb z k) 1 0) all sorted moved ∙ counted.times k;
}

module _ (keys : List (List ℕ)) (n : ℕ) (all : List ℕ) (past : length keys ≤ n) (counted : AreCountedUpto keys n all) where
  times_all : (k : ℕ) → times_in all k ≡ times_among keys k
  times_all k = counted.times k ∙ ap (λ (fs : List (List ℕ)). times_among fs k) (take_all n keys past)

  pub repeated_keys : (ks : List ℕ) → AreAllRising (λ k. 2 ≤ times_in all k) ks → AreAllRising (IsRepeatedKey keys) ks
  repeated_keys ks are =
      in_order_same (λ a b. a < b) (λ k. 2 ≤ times_in all k) (IsRepeatedKey keys) ks
      (λ k twice.
      let e = times_all k in
      let (a, i, b, j, before, at, then) = from_among_two keys k (omega (arith, twice, e)) in
      (record { file = a; at = i }, record { file = b; at = j }, before, at, then))
      (λ k (p, q, before, has, also). let e = times_all k in let t = among_two keys k p.file p.at q.file q.at before has also in omega (arith, t, e))
      are

  pub number_of_keys : (m : ℕ) → AreSoMany (Contains all) m → AreSoMany (IsKey keys) m
  number_of_keys m so_many = λ ks are.
      so_many ks
      (in_order_same (λ a b. a < b) (IsKey keys) (Contains all) ks
      (λ k is. (keys_all keys n all past counted.upto k).1 is)
      (λ k c. (keys_all keys n all past counted.upto k).0 c)
      are)
