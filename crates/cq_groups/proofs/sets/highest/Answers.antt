use Rattle.cq_groups.proofs.Highest.{highest_more, highest_all}
use Rattle.cq_groups.specs.declared.spots.MarkedRow.{MarkedRow}
use Rattle.cq_groups.proofs.sets.highest.Goals as goal

pub loop-x-preserved : goal.loop-x-preserved
loop-x-preserved c =
    let origin : MarkedRow = record { row = record { first = record { place = record { file = 0; at = 0 }; left = 0 }; others = 0; gap = 0; left = 0 }; mark = 0 } in
    highest_more c.args.marked.now c.loop-x.x-index c.loop-x.most c.max-most.result origin c.loop-x-test.true c.max-most.ensures c.loop-x.invariant

pub returns : goal.returns
returns c =
    let h = highest_all c.args.marked.now c.loop-x.x-index c.loop-x.most c.loop-x-test.false c.loop-x.invariant in
    record { all = h.0; one = h.1 }
