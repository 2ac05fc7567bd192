-- Rising numbers, with one taken out or added at the end.
use Rattle.std.proofs.Common.{◌≡◌, ◌≢◌, ◌↔◌, ℕ, zero, suc, ◌+◌, ◌-◌, ◌<◌, ◌≤◌, List, [], ◌∷◌, ◌++◌, length, get_or, Ok, Err, Result, refl, sym, ap, ◌∙◌, subst, ⊎_elim, arith, nat_cmp}
use Rattle.std.specs.Prelude.{AllPairs, Contains, nat_eq}
use Rattle.std.specs.Result.{is_ok}
use Rattle.std.specs.List.{list_any}
use Rattle.std.specs.List.{SameBelow, ShiftedDown}
use Rattle.std.specs.List.Sorted.{IsStrictlyIncreasing, IsSorted, IsBinarySearchResult}
use Rattle.std.proofs.lemmas.Bool.{cases_lt, cases_order, eqb-true, false_from_ne_true}
use Rattle.std.proofs.lemmas.List.Elements.{Contains-get_or}
use Rattle.std.proofs.lemmas.List.Sorted.{searched, IsNonDecreasingBy-from_sort}
use Rattle.std.proofs.lemmas.Map.Views.{Contains-from_any}
use Rattle.cq_shard.proofs.Entries.{any_of}
use Rattle.std.proofs.lemmas.List.Kept.{AllPairs-from_increasing}
use Rattle.std.proofs.lemmas.List.Quantifiers.{all_pairs_push}
use Rattle.cq_shard.proofs.Live.{rises}

pub rising-from_pairs : (xs : List ℕ) → AllPairs (λ a b. a < b) xs → IsStrictlyIncreasing xs
rising-from_pairs xs pairs k within = pairs k (k + 1) 0 (omega arith) within

get_or_defaults : (xs : List ℕ) (i d e : ℕ) → i < length xs → get_or xs i d ≡ get_or xs i e
get_or_defaults [] i d e lt = absurd (omega (arith, lt))
get_or_defaults (x ∷ xs) zero d e lt = refl
get_or_defaults (x ∷ xs) (suc i) d e lt = get_or_defaults xs i d e (omega (arith, lt))

pub rising_push : (xs : List ℕ) (n : ℕ) → IsStrictlyIncreasing xs → ((r : ℕ) → Contains xs r → r < n) → IsStrictlyIncreasing (xs ++ n ∷ [])
rising_push xs n rising above =
    rising-from_pairs (xs ++ n ∷ [])
    (all_pairs_push (λ a b. a < b) xs n (AllPairs-from_increasing xs rising) (λ k d lt. above (get_or xs k d) (Contains-get_or xs k d lt)))

module _ (xs ys : List ℕ) (i : ℕ) (within : i < length xs) (number : length ys + 1 ≡ length xs) (below : SameBelow xs ys i) (above : ShiftedDown xs ys i) (rising : IsStrictlyIncreasing xs) where
  pairs : AllPairs (λ a b. a < b) xs
  pairs = AllPairs-from_increasing xs rising

  -- where the one at an index stood
  stood : (k d : ℕ) → k < length ys → (j : ℕ) × (j < length xs) × (j ≢ i) × (get_or ys k d ≡ get_or xs j d) × ((k < i) → j ≡ k) × ((i ≤ k) → j ≡ k + 1)
  stood k d lt =
      ⊎_elim
      (λ (low : k < i). (k, omega (arith, low, within), (λ e. omega (arith, e, low)), below k d low, (λ _. refl), λ ge. absurd (omega (arith, ge, low))))
      (λ (high : i ≤ k). (k + 1, omega (arith, lt, number), (λ e. omega (arith, e, high)), above k d high, (λ lo. absurd (omega (arith, lo, high))), λ _. refl))
      (cases_lt k i)

  pub taken_others : (n : ℕ) → get_or xs i 0 ≡ n → (r : ℕ) → Contains ys r ↔ (Contains xs r × (n ≢ r))
  taken_others n is r = (
    λ (k, lt, here).
        let p = stood k r lt in
        ((p.0, p.1, sym p.3 ∙ here), λ same. apart p.0 r p.1 p.2 (sym p.3 ∙ here) (is ∙ same)),
    λ ((k, lt, here), other). ⊎_elim
        (λ (low : k < i). (k, omega (arith, low, within, number), below k r low ∙ here))
        (λ (high : i ≤ k). ⊎_elim
        (λ (behind : i < k). let e : k - 1 + 1 ≡ k = omega (arith, behind) in
        (k - 1, omega (arith, lt, number, behind), above (k - 1) r (omega (arith, behind)) ∙ ap (λ j. get_or xs j r) e ∙ here))
        (λ (not_behind : k ≤ i). let e : k ≡ i = omega (arith, high, not_behind) in
        absurd (other (sym is ∙ same_index i r within ∙ ap (λ j. get_or xs j r) (sym e) ∙ here)))
        (cases_lt i k))
        (cases_lt k i),
  )
    where
      same_index : (j d : ℕ) → j < length xs → get_or xs j 0 ≡ get_or xs j d
      same_index j d lt = get_or_defaults xs j 0 d lt

      apart : (j r : ℕ) → j < length xs → j ≢ i → get_or xs j r ≡ r → get_or xs i 0 ≡ r → ⊥
      apart j r lt other here there =
          let mine : get_or xs i r ≡ r = sym (same_index i r within) ∙ there in
          ⊎_elim (λ e. other e)
          (λ sides. ⊎_elim
          (λ less. let h = pairs j i r less within in omega (arith, h, here, mine))
          (λ more. let h = pairs i j r more lt in omega (arith, h, here, mine))
          sides)
          (cases_order j i)

-- what a search does not find is not there
pub not_there : (xs : List ℕ) (x : ℕ) (r : Result ℕ ℕ) → IsBinarySearchResult (λ y. nat_cmp y x) xs r → IsStrictlyIncreasing xs → ((i : ℕ) → r ≡ Ok i → ⊥) → Contains xs x → ⊥
not_there xs x (Ok i) is rising never there = never i refl
not_there xs x (Err i) is rising never (k, lt, here) =
    let s = searched xs x (Err i) is (rises xs rising) in
    let at : get_or xs k 0 ≡ x = get_or_defaults xs k 0 x lt ∙ here in
    ⊎_elim
    (λ (low : k < i). let h = s.1 k low in omega (arith, h, at))
    (λ (high : i ≤ k). let h = s.2 k high lt in omega (arith, h, at))
    (cases_lt k i)

pub found_at : (xs : List ℕ) (x : ℕ) (r : Result ℕ ℕ) (i : ℕ) → IsBinarySearchResult (λ y. nat_cmp y x) xs r → IsStrictlyIncreasing xs → r ≡ Ok i → (i < length xs) × (get_or xs i 0 ≡ x)
found_at xs x (Ok j) i is rising e = let s = searched xs x (Ok j) is (rises xs rising) in let same : j ≡ i = cc e in subst (λ k. (k < length xs) × (get_or xs k 0 ≡ x)) same s
found_at xs x (Err j) i is rising e = absurd (cc)

-- whether a search of sorted numbers finds one
pub among : (xs : List ℕ) (n : ℕ) (r : Result ℕ ℕ) → IsBinarySearchResult (λ y. nat_cmp y n) xs r → IsSorted nat_cmp xs → is_ok r ≡ list_any (nat_eq n) xs
among xs n (Ok i) is sorted =
    let s = searched xs n (Ok i) is (λ j k le lt. IsNonDecreasingBy-from_sort (λ x. x) xs sorted j k 0 le lt) in
    sym (any_of n xs (i, s.0, get_or_defaults xs i n 0 s.0 ∙ s.1))
among xs n (Err i) is sorted =
    let s = searched xs n (Err i) is (λ j k le lt. IsNonDecreasingBy-from_sort (λ x. x) xs sorted j k 0 le lt) in
    sym (false_from_ne_true (list_any (nat_eq n) xs) (λ h.
    let (k, lt, here) = Contains-from_any eqb-true n xs h in
    let at : get_or xs k 0 ≡ n = get_or_defaults xs k 0 n lt ∙ here in
    ⊎_elim
    (λ (low : k < i). let less = s.1 k low in omega (arith, less, at))
    (λ (high : i ≤ k). let more = s.2 k high lt in omega (arith, more, at))
    (cases_lt k i)))
