use Rattle.std.proofs.Common.{◌≤◌, length}
use Rattle.cq_func.proofs.Search.{AreNearest}
use Rattle.cq_func.proofs.places.first_places.Given as goal

abbrev pub invariant-loop-at : goal.invariant-loop-at
invariant-loop-at l = (l.at ≤ length l.marks) × AreNearest l.marks l.width l.at l.first.items

abbrev pub decreases-loop-at : goal.decreases-loop-at
decreases-loop-at l = l.at
