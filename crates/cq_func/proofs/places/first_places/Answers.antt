use Rattle.std.proofs.Common.{arith, rules}
use Rattle.cq_func.proofs.Search.{nearest_more}
use Rattle.cq_func.proofs.places.first_places.Goals as goal

pub loop-at-preserved : goal.loop-at-preserved
loop-at-preserved c =
    let before = c.loop-at.invariant in
    (omega arith, nearest_more _ _ _ _ _ _ (omega arith) (omega arith) (search rules) (search rules) before.1)
