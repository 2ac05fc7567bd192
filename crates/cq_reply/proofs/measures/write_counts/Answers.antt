use Rattle.std.proofs.Common.{get_or, arith}
use Rattle.std.proofs.lemmas.List.{take_all, get_or_default}
use Rattle.cq_reply.specs.Written.{count}
use Rattle.cq_reply.proofs.Adding.{each_none, each_more, listed}
use Rattle.cq_reply.proofs.measures.write_counts.Goals as goal

pub loop-count-init : goal.loop-count-init
loop-count-init c = each_none count _

pub loop-count-preserved : goal.loop-count-preserved
loop-count-preserved c =
    let counts = c.args.counts.now in
    let i = c.loop-count.count-index in
    each_more count counts i (get_or counts i 0) c.loop-count-test.true (get_or_default counts i 0 _ c.loop-count-test.true) c.loop-count.invariant c.in_ok-write_count.ensures

pub returns : goal.returns
returns c = listed count c.args.counts.now _ c.end_array.result (take_all c.loop-count.count-index c.args.counts.now (omega arith)) c.in_ok-begin_array.ensures c.loop-count.invariant c.end_array.ensures
