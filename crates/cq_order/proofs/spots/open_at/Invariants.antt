use Rattle.std.proofs.Common.{◌≡◌, ◌++◌, map, take, drop}
use Rattle.cq_order.specs.Spots.{opened}
use Rattle.cq_order.proofs.spots.open_at.Given as goal

abbrev pub invariant-loop-i : goal.invariant-loop-i
invariant-loop-i l = l.files ≡ map (opened l.at) (take l.i l.fn.files) ++ drop l.i l.fn.files
