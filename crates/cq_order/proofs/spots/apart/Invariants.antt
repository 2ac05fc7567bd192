use Rattle.std.proofs.Common.{◌≡◌, take}
use Rattle.cq_order.proofs.spots.apart.Given as goal

abbrev pub invariant-loop-spot : goal.invariant-loop-spot
invariant-loop-spot l = l.all ≡ take l.spot-index l.spots
