use Rattle.std.proofs.Common.{◌↔◌, ℕ, take}
use Rattle.std.specs.Prelude.{Contains}
use Rattle.std.specs.List.Sorted.{IsStrictlyIncreasing}
use Rattle.cq_board.proofs.live.take_out_each.Given as goal

abbrev pub invariant-loop-number : goal.invariant-loop-number
invariant-loop-number l = IsStrictlyIncreasing l.live.items × ((r : ℕ) → Contains l.live.items r ↔ (Contains l.fn.live.items r × (Contains (take l.number-index l.fn.gone) r → ⊥)))
