use Rattle.cq_order.proofs.Spotting.{spots_none, spots_pushed, spots_all}
use Rattle.cq_order.proofs.spots.unsorted.Goals as goal

pub loop-file-init : goal.loop-file-init
loop-file-init c = spots_none c.args.changes.now _ c.in_ok-spots.ensures.items

pub loop-file-preserved : goal.loop-file-preserved
loop-file-preserved c = spots_pushed c.args.changes.now c.loop-file.file c.loop-file.spots.items _ c.loop-file-test.true c.in_ok-push.ensures.items c.loop-file.invariant

pub returns : goal.returns
returns c = spots_all c.args.changes.now c.loop-file.file _ c.loop-file-test.false c.loop-file.invariant
