use Rattle.cq_groups.proofs.Parting.{ArePartedUpto}
use Rattle.cq_groups.proofs.keys.parted.Given as goal

abbrev pub invariant-loop-at : goal.invariant-loop-at
invariant-loop-at l = ArePartedUpto l.keys l.at l.repeated.items l.lone
