-- A number is found in a list that rises exactly where it is there.
use Rattle.std.proofs.Common.{◌≡◌, ℕ, ◌+◌, ◌-◌, ◌<◌, ◌≤◌, nat_eq, List, length, take, drop, get_or, sym, ◌∙◌, ap, ⊎_elim, arith}
use Rattle.std.specs.Prelude.{Contains, Result, Ok, Err, MatchResult}
use Rattle.std.specs.Result.{is_ok}
use Rattle.std.specs.List.{list_any}
use Rattle.std.specs.List.Sorted.{IsStrictlyIncreasing}
use Rattle.std.proofs.lemmas.Bool.{eqb-true, cases_lt, false_from_ne_true}
use Rattle.std.proofs.lemmas.Grind.{get_or_default_zero}
use Rattle.std.proofs.lemmas.List.Kept.{AllPairs-from_increasing}
use Rattle.std.proofs.lemmas.Map.Views.{Contains-from_any}
use Rattle.cq_clones.proofs.Words.{get_or-word, length-word}
use Rattle.cq_order.specs.Reach.{CanStandAt}
use Rattle.cq_order.proofs.Climbing.{risen_first, risen_last}
use Rattle.cq_shard.proofs.Entries.{any_of}

pub rises : (xs : List ℕ) → IsStrictlyIncreasing xs → (i j : ℕ) → i ≤ j → j < length xs → get_or xs i 0 ≤ get_or xs j 0
rises xs up i j low within =
    ⊎_elim
    (λ lt. let h = AllPairs-from_increasing xs up i j 0 lt within in omega (arith, h))
    (λ no. let same : i ≡ j = omega (arith, low, no) in let e : get_or xs i 0 ≡ get_or xs j 0 = ap (λ k. get_or xs k 0) same in omega (arith, e))
    (cases_lt i j)

not_there : (xs : List ℕ) (x i : ℕ) → ((k : ℕ) → k < i → get_or xs k 0 < x) → ((k : ℕ) → i ≤ k → k < length xs → x < get_or xs k 0) → Contains xs x → ⊥
not_there xs x i below above (k, within, is) =
    let same : get_or xs k 0 ≡ x = sym (get_or_default_zero xs k x within) ∙ is in
    ⊎_elim
    (λ lt. let h = below k lt in omega (arith, h, same))
    (λ no. let h = above k no within in omega (arith, h, same))
    (cases_lt k i)

-- A search between two places finds a number exactly where it is there, if no other place can have it.
module _ (xs : List ℕ) (x from to : ℕ) (up : IsStrictlyIncreasing xs) (low : from ≤ to) (high : to ≤ length xs)
    (all : (k : ℕ) → CanStandAt (get_or xs 0 0) (get_or xs (length xs - 1) 0) (length xs) x k → (from ≤ k) × (k < to)) where
  abbrev near : List ℕ
  near = take (to - from) (drop from xs)

  near_long : length near ≡ to - from
  near_long = length-word xs from (to - from) (omega (arith, low, high))

  pub near_rises : (i j : ℕ) → i ≤ j → j < length near → get_or near i 0 ≤ get_or near j 0
  near_rises i j le within =
      let many = near_long in
      let fits : j < to - from = omega (arith, many, within) in
      let a = get_or-word xs from (to - from) i 0 (omega (arith, le, fits)) in
      let b = get_or-word xs from (to - from) j 0 fits in
      let h = rises xs up (from + i) (from + j) (omega (arith, le)) (omega (arith, fits, low, high)) in
      omega (arith, a, b, h)

  pub found_near : (r : Result ℕ ℕ) →
      MatchResult r (λ i. (i < length near) × (get_or near i 0 ≡ x)) (λ i. (i ≤ length near) × ((k : ℕ) → k < i → get_or near k 0 < x) × ((k : ℕ) → i ≤ k → k < length near → x < get_or near k 0)) →
      is_ok r ≡ list_any (nat_eq x) xs
  found_near (Ok i) found =
      let many = near_long in
      let inside = found.0 in
      let fits : i < to - from = omega (arith, many, inside) in
      let within : from + i < length xs = omega (arith, fits, low, high) in
      sym (any_of x xs (from + i, within, get_or_default_zero xs (from + i) x within ∙ sym (get_or-word xs from (to - from) i 0 fits) ∙ found.1))
  found_near (Err i) found = sym (false_from_ne_true (list_any (nat_eq x) xs) (λ h.
      let (k, within, is) = Contains-from_any eqb-true x xs h in
      let same : get_or xs k 0 ≡ x = sym (get_or_default_zero xs k x within) ∙ is in
      let first = risen_first (λ (y : ℕ). y) xs 0 (AllPairs-from_increasing xs up) k within in
      let last = risen_last (λ (y : ℕ). y) xs 0 (AllPairs-from_increasing xs up) k within in
      let between = all k (within, omega (arith, first, same), omega (arith, last, same)) in
      let above = between.0 in
      let below = between.1 in
      let many = near_long in
      let fits : k - from < to - from = omega (arith, above, below) in
      let inside : k - from < length near = omega (arith, many, fits) in
      let place : from + (k - from) ≡ k = omega (arith, above) in
      let at = get_or-word xs from (to - from) (k - from) x fits ∙ ap (λ j. get_or xs j x) place in
      not_there near x i found.1 found.2 (k - from, inside, at ∙ is)))
