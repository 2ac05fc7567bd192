use Rattle.std.proofs.Common.{◌≡◌, take}
use Rattle.cq_order.specs.Spots.{with_positions}
use Rattle.cq_order.proofs.spots.unsorted.Given as goal

abbrev pub invariant-loop-file : goal.invariant-loop-file
invariant-loop-file l = l.spots.items ≡ with_positions 0 (take l.file l.changes)
