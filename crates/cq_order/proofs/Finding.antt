-- The place of a number among rising ones.
use Rattle.std.proofs.Common.{◌≡◌, ◌≢◌, ℕ, ◌+◌, ◌-◌, ◌<◌, ◌≤◌, List, length, get_or, take, drop, slice_get, Some, None, Ok, Err, sym, ap, ◌∙◌, ⊎_elim, arith}
use Rattle.std.specs.Prelude.{AllPairs}
use Rattle.std.specs.Ordering.{nat_cmp}
use Rattle.std.specs.List.Sorted.{IsBinarySearchResult}
use Rattle.std.proofs.lemmas.Bool.{cases_lt, cases_order}
use Rattle.std.proofs.lemmas.List.{get_or_default}
use Rattle.std.proofs.lemmas.List.Sorted.{searched}
use Rattle.std.proofs.lemmas.Option.{same_Some, none-some, slice_get-get_or, slice_get_within, get_or_from_slice_get}
use Rattle.cq_clones.proofs.Words.{get_or-word, length-word}
use Rattle.cq_order.specs.Reach.{CanStandAt}
use Rattle.cq_order.specs.Spots.{IsPositionOf}
use Rattle.cq_order.proofs.Climbing.{risen_first, risen_last}

module _ (xs : List ℕ) (x : ℕ) where
  pub position_none : ((k : ℕ) → k < length xs → get_or xs k 0 ≢ x) → IsPositionOf xs x None
  position_none never k = (
    λ e. absurd (none-some k e),
    λ here. absurd (never k (slice_get_within xs k x here) (get_or_from_slice_get xs k x 0 here)),
  )

  module _ (rising : AllPairs (λ a b. a < b) xs) where
    position_here : (i : ℕ) → i < length xs → get_or xs i 0 ≡ x → IsPositionOf xs x (Some i)
    position_here i within at k = (
      λ e. ap (slice_get xs) (sym (same_Some i k e)) ∙ slice_get-get_or xs i 0 within ∙ ap Some at,
      λ here.
          let inside = slice_get_within xs k x here in
          let there : get_or xs k 0 ≡ x = get_or_from_slice_get xs k x 0 here in
          ⊎_elim
          (λ (e : i ≡ k). ap Some e)
          (λ sides. absurd (⊎_elim
          (λ (lt : i < k). let less = rising i k 0 lt inside in omega (arith, less, at, there))
          (λ (gt : k < i). let less = rising k i 0 gt within in omega (arith, less, at, there))
          sides))
          (cases_order i k),
    )

    -- a binary search between two places, where no other place can have it
    module _ (from to z : ℕ) (low : from ≤ to) (high : to ≤ length xs)
        (all : (k : ℕ) → CanStandAt (get_or xs 0 z) (get_or xs (length xs - 1) z) (length xs) x k → (from ≤ k) × (k < to)) where
      abbrev near : List ℕ
      near = take (to - from) (drop from xs)

      near_long : length near ≡ to - from
      near_long = length-word xs from (to - from) (omega (arith, low, high))

      near_read : (i : ℕ) → i < to - from → get_or near i 0 ≡ get_or xs (from + i) 0
      near_read i fits = get_or-word xs from (to - from) i 0 fits

      near_up : (i j : ℕ) → i ≤ j → j < length near → get_or near i 0 ≤ get_or near j 0
      near_up i j le within =
          let many = near_long in
          let fits : j < to - from = omega (arith, many, within) in
          ⊎_elim
          (λ (lt : i < j).
          let a = near_read i (omega (arith, lt, fits)) in
          let b = near_read j fits in
          let less = rising (from + i) (from + j) 0 (omega (arith, lt)) (omega (arith, fits, low, high)) in
          omega (arith, a, b, less))
          (λ (ge : j ≤ i). let e : i ≡ j = omega (arith, le, ge) in let same = ap (λ k. get_or near k 0) e in omega (arith, same))
          (cases_lt i j)

      reached : (k : ℕ) → k < length xs → get_or xs k 0 ≡ x → CanStandAt (get_or xs 0 z) (get_or xs (length xs - 1) z) (length xs) x k
      reached k within same =
          let is : get_or xs k z ≡ x = get_or_default xs k z 0 within ∙ same in
          let first = risen_first (λ (n : ℕ). n) xs z rising k within in
          let last = risen_last (λ (n : ℕ). n) xs z rising k within in
          (within, omega (arith, first, is), omega (arith, last, is))

      pub near_found : (i : ℕ) → IsBinarySearchResult (λ y. nat_cmp y x) near (Ok i) → IsPositionOf xs x (Some (from + i))
      near_found i is =
          let s = searched near x (Ok i) is near_up in
          let inside = s.0 in
          let many = near_long in
          let fits : i < to - from = omega (arith, many, inside) in
          position_here (from + i) (omega (arith, fits, low, high)) (sym (near_read i fits) ∙ s.1)

      pub near_absent : (i : ℕ) → IsBinarySearchResult (λ y. nat_cmp y x) near (Err i) → IsPositionOf xs x None
      near_absent i is = position_none (λ k within same.
          let s = searched near x (Err i) is near_up in
          let many = near_long in
          let between = all k (reached k within same) in
          let above = between.0 in
          let below = between.1 in
          let fits : k - from < to - from = omega (arith, above, below) in
          let place : from + (k - from) ≡ k = omega (arith, above) in
          let at : get_or near (k - from) 0 ≡ x = near_read (k - from) fits ∙ ap (λ j. get_or xs j 0) place ∙ same in
          ⊎_elim
          (λ (lt : k - from < i). let h = s.1 (k - from) lt in omega (arith, h, at))
          (λ (ge : i ≤ k - from). let h = s.2 (k - from) ge (omega (arith, many, fits)) in omega (arith, h, at))
          (cases_lt (k - from) i))
