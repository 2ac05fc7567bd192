use Rattle.std.proofs.Common.{◌≡◌, ◌++◌, map, take, drop}
use Rattle.cq_order.specs.Spots.{closed}
use Rattle.cq_order.proofs.spots.close_at.Given as goal

abbrev pub invariant-loop-i : goal.invariant-loop-i
invariant-loop-i l = l.files ≡ map (closed l.at) (take l.i l.fn.files) ++ drop l.i l.fn.files
