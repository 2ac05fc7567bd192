use Rattle.std.proofs.Common.{[], map, take}
use Rattle.cq_groups.specs.Sets.{AreByMark}
use Rattle.cq_groups.proofs.sets.parts_of.Given as goal

abbrev pub invariant-loop-mark : goal.invariant-loop-mark
invariant-loop-mark l = AreByMark l._mark [] (map (λ part. part.items) l.parts.items)

abbrev pub invariant-loop-x : goal.invariant-loop-x
invariant-loop-x l = AreByMark l.highest (take l.x-index l.marked) (map (λ part. part.items) l.parts.items)
