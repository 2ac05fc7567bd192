-- A binary search among things in the order of a text of theirs.
use Rattle.std.proofs.Common.{◌≡◌, ℕ, zero, suc, ◌<◌, ◌≤◌, true, List, [], ◌∷◌, length, get_or, refl, ap, subst, ⊎_elim, arith, Ok, Err, Result}
use Rattle.std.specs.Prelude.{MatchResult, IfOk, IfErr}
use Rattle.std.specs.List.{AllByRecursion}
use Rattle.std.specs.List.Sorted.{IsBinarySearchResult, IsNonDecreasingBy, IsSearchInRange}
use Rattle.std.specs.Ordering.{nat_cmp, is_lt, ordering_reverse, ordering_index}
use Rattle.std.specs.declared.cmp.Ordering.{Ordering}
use Rattle.std.specs.declared.cmp.Ordering.TheVariants.{Less, Equal, Greater}
use Rattle.std.specs.Cmp.Lexicographic.{slice_cmp}
use Rattle.std.proofs.lemmas.Cmp.{nat_list_cmp_total}
use Rattle.std.proofs.lemmas.Map.Lookups.{exact_bytes}
use Rattle.std.proofs.lemmas.Bool.{cases_lt}
use Rattle.cq_base.proofs.Orderings.{Less-from_is_lt}
use Rattle.cq_history.specs.Files.{is_before}
use Rattle.cq_projects.specs.Ordered.{AreRising, IsAt, IsGap}

turned : (r s : Ordering) → r ≡ ordering_reverse s → r ≡ Greater → is_lt s ≡ true
turned r Less e h = refl
turned r Equal e h = absurd (cc)
turned r Greater e h = absurd (cc)

-- what compares as greater comes after
pub before_greater : (p q : List ℕ) → slice_cmp nat_cmp q p ≡ Greater → is_before p q ≡ true
before_greater p q h = turned (slice_cmp nat_cmp q p) (slice_cmp nat_cmp p q) (nat_list_cmp_total.antisymm q p) h

module _ {X : Type 0} (text : X → List ℕ) where
  all_at : (P : X → Type 0) (xs : List X) (i : ℕ) (d : X) → AllByRecursion P xs → i < length xs → P (get_or xs i d)
  all_at P [] i d all lt = absurd (omega (arith, lt))
  all_at P (x ∷ xs) zero d all lt = all.0
  all_at P (x ∷ xs) (suc i) d all lt = all_at P xs i d all.1 (omega (arith, lt))

  all_from : (P : X → Type 0) (xs : List X) → ((i : ℕ) (d : X) → i < length xs → P (get_or xs i d)) → AllByRecursion P xs
  all_from P [] each = tt
  all_from P (x ∷ xs) each = (each 0 x (omega arith), all_from P xs (λ i d lt. each (suc i) d (omega (arith, lt))))

  all_mapped : (P Q : X → Type 0) (xs : List X) → ((x : X) → P x → Q x) → AllByRecursion P xs → AllByRecursion Q xs
  all_mapped P Q [] f all = tt
  all_mapped P Q (x ∷ xs) f all = (f x all.0, all_mapped P Q xs f all.1)

  -- an index of the list, and what stands on both sides of it
  at_index : (p : List ℕ) (xs : List X) (i : ℕ) (d : X) → AreRising text xs → i < length xs → text (get_or xs i d) ≡ p → IsAt text p xs i
  at_index p [] i d rising lt same = absurd (omega (arith, lt))
  at_index p (x ∷ xs) zero d rising lt same = record {
    before = [];
    item = x;
    after = xs;
    is = refl;
    index = refl;
    same = same;
    low = tt;
    high = subst (λ q. AllByRecursion (λ (y : X). is_before q (text y) ≡ true) xs) same rising.0;
  }
  at_index p (x ∷ xs) (suc i) d rising lt same =
      let rest = at_index p xs i d rising.1 (omega (arith, lt)) same in
      record {
        before = x ∷ rest.before;
        item = rest.item;
        after = rest.after;
        is = ap (λ ys. x ∷ ys) rest.is;
        index = ap suc rest.index;
        same = rest.same;
        low = (subst (λ q. is_before (text x) q ≡ true) same (all_at (λ (y : X). is_before (text x) (text y) ≡ true) xs i d rising.0 (omega (arith, lt))), rest.low);
        high = rest.high;
      }

  gap_index : (p : List ℕ) (xs : List X) (i : ℕ) → i ≤ length xs → ((k : ℕ) (d : X) → k < i → is_before (text (get_or xs k d)) p ≡ true) → ((k : ℕ) (d : X) → i ≤ k → k < length xs → is_before p (text (get_or xs k d)) ≡ true) → IsGap text p xs i
  gap_index p xs zero le below above = record {
    before = [];
    after = xs;
    is = refl;
    index = refl;
    low = tt;
    high = all_from (λ (x : X). is_before p (text x) ≡ true) xs (λ k d lt. above k d (omega arith) lt);
  }
  gap_index p [] (suc i) le below above = absurd (omega (arith, le))
  gap_index p (x ∷ xs) (suc i) le below above =
      let rest = gap_index p xs i (omega (arith, le)) (λ k d lt. below (suc k) d (omega (arith, lt))) (λ k d low lt. above (suc k) d (omega (arith, low)) (omega (arith, lt))) in
      record {
        before = x ∷ rest.before;
        after = rest.after;
        is = ap (λ ys. x ∷ ys) rest.is;
        index = ap suc rest.index;
        low = (below 0 x (omega arith), rest.low);
        high = rest.high;
      }

  -- where one compares as not less, no later one does
  rising_index : (p : List ℕ) (x y : X) → is_before (text x) (text y) ≡ true → ordering_index (slice_cmp nat_cmp (text x) p) ≤ ordering_index (slice_cmp nat_cmp (text y) p)
  rising_index p x y h = by (slice_cmp nat_cmp (text y) p) refl
    where
      least : (r : Ordering) → r ≡ Less → ordering_index r ≤ 0
      least r e = let z : ordering_index r ≡ 0 = ap ordering_index e in omega (arith, z)

      most : (r : Ordering) → ordering_index r ≤ 2
      most Less = omega arith
      most Equal = omega arith
      most Greater = omega arith

      by : (s : Ordering) → slice_cmp nat_cmp (text y) p ≡ s → ordering_index (slice_cmp nat_cmp (text x) p) ≤ ordering_index s
      by Less e = least _ (nat_list_cmp_total.trans (text x) (text y) p (Less-from_is_lt _ h) e)
      by Equal e = let z = least _ (subst (λ q. slice_cmp nat_cmp (text x) q ≡ Less) (exact_bytes (text y) p e) (Less-from_is_lt _ h)) in omega (arith, z)
      by Greater e = most _

  rising_pair : (xs : List X) (i j : ℕ) (d : X) → AreRising text xs → i < j → j < length xs → is_before (text (get_or xs i d)) (text (get_or xs j d)) ≡ true
  rising_pair [] i j d rising lt within = absurd (omega (arith, within))
  rising_pair (x ∷ xs) zero zero d rising lt within = absurd (omega (arith, lt))
  rising_pair (x ∷ xs) zero (suc j) d rising lt within = all_at (λ (y : X). is_before (text x) (text y) ≡ true) xs j d rising.0 (omega (arith, within))
  rising_pair (x ∷ xs) (suc i) zero d rising lt within = absurd (omega (arith, lt))
  rising_pair (x ∷ xs) (suc i) (suc j) d rising lt within = rising_pair xs i j d rising.1 (omega (arith, lt)) (omega (arith, within))

  not_falling : (p : List ℕ) (xs : List X) → AreRising text xs → IsNonDecreasingBy (λ (y : X). ordering_index (slice_cmp nat_cmp (text y) p)) xs
  not_falling p xs rising i j d le within =
      ⊎_elim
      (λ lt. rising_index p (get_or xs i d) (get_or xs j d) (rising_pair xs i j d rising lt within))
      (λ ge. let e : j ≡ i = omega (arith, ge, le) in let same = ap (λ k. ordering_index (slice_cmp nat_cmp (text (get_or xs k d)) p)) e in omega (arith, same))
      (cases_lt i j)

  pub searched : (p : List ℕ) (xs : List X) (r : Result ℕ ℕ) → IsBinarySearchResult (λ (y : X). slice_cmp nat_cmp (text y) p) xs r → IsSearchInRange r (length xs) → AreRising text xs → MatchResult r (IsAt text p xs) (IsGap text p xs)
  searched p [] (Ok i) is within rising = absurd (omega (arith, within))
  searched p (x ∷ xs) (Ok i) is within rising = at_index p (x ∷ xs) i x rising within (exact_bytes (text (get_or (x ∷ xs) i x)) p (is x))
  searched p xs (Err i) is within rising =
      let parts = is (not_falling p xs rising) in
      gap_index p xs i within
      (λ k d lt. ap is_lt (parts.0 k d (omega arith) lt))
      (λ k d low lt. before_greater p (text (get_or xs k d)) (parts.1 k d low lt))

  pub searched-found : (p : List ℕ) (xs : List X) (r : Result ℕ ℕ) → IsBinarySearchResult (λ (y : X). slice_cmp nat_cmp (text y) p) xs r → IsSearchInRange r (length xs) → AreRising text xs → IfOk r (IsAt text p xs)
  searched-found p xs (Ok i) is within rising = searched p xs (Ok i) is within rising
  searched-found p xs (Err i) is within rising = tt

  pub searched-gap : (p : List ℕ) (xs : List X) (r : Result ℕ ℕ) → IsBinarySearchResult (λ (y : X). slice_cmp nat_cmp (text y) p) xs r → IsSearchInRange r (length xs) → AreRising text xs → IfErr r (IsGap text p xs)
  searched-gap p xs (Ok i) is within rising = tt
  searched-gap p xs (Err i) is within rising = searched p xs (Err i) is within rising
