-- How far an index goes that a search found.
use Rattle.std.proofs.Common.{◌≡◌, ℕ, ◌+◌, ◌-◌, ◌<◌, ◌≤◌, List, ◌∷◌, length, take, drop, ap, arith, length-append}
use Rattle.std.proofs.lemmas.List.{length-take}
use Rattle.cq_projects.specs.Ordered.{IsAt, IsGap}

module _ {X : Type 0} {text : X → List ℕ} {p : List ℕ} {xs : List X} {i : ℕ} where
  pub at_inside : IsAt text p xs i → i < length xs
  at_inside at = omega (arith, ap length at.is, length-append at.before (at.item ∷ at.after), at.index)

  pub gap_inside : IsGap text p xs i → i ≤ length xs
  gap_inside gap = omega (arith, ap length gap.is, length-append gap.before gap.after, gap.index)

-- in a part of the list, from one place up to another
module _ {X : Type 0} (text : X → List ℕ) (p : List ℕ) (xs : List X) (from to i : ℕ) (ordered : from ≤ to) where
  pub at_before : IsAt text p (take (to - from) (drop from xs)) i → from + i < to
  at_before at = omega (arith, ordered, at_inside at, length-take (to - from) (drop from xs))

  pub gap_before : IsGap text p (take (to - from) (drop from xs)) i → from + i ≤ to
  gap_before gap = omega (arith, ordered, gap_inside gap, length-take (to - from) (drop from xs))
