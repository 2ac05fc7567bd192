use Rattle.std.proofs.Common.{arith}
use Rattle.std.proofs.lemmas.Iterator.Consumers.{YieldsList-end}
use Rattle.cq_scope.proofs.Counts.{yields_parts}
use Rattle.cq_scope.proofs.parts.part_count.Goals as goal

pub returns : goal.returns
returns c =
    let t = YieldsList-end (yields_parts c.args.path.now c.into_iter-part-iterator.ensures.into_iter_gives c.split-part-items.ensures.text c.split-part-items.ensures.has_more c.split-part-items.ensures.pattern) c.loop-part.yielded _ c.loop-part.yielded_by _ _ c.in-None.is c.next.ensures.steps in
    omega (arith, t.1, c.loop-part.invariant)
