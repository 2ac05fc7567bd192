use Rattle.std.proofs.Common.{◌≤◌, length}
use Rattle.cq_func.proofs.Search.{AreNearest, AreFound}
use Rattle.cq_func.proofs.places.places_above.Given as goal

abbrev pub invariant-loop-at : goal.invariant-loop-at
invariant-loop-at l = (l.at ≤ length l.marks) × AreNearest l.marks l.width l.at l.nearest.items × AreFound l.wanted l.marks l.at l.found.items

abbrev pub decreases-loop-at : goal.decreases-loop-at
decreases-loop-at l = l.at
