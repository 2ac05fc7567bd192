use Rattle.cq_groups.proofs.Kept.{row_begins, row_goes_on, row_ends}
use Rattle.cq_groups.proofs.keeping.keep_row.Goals as goal

pub loop-i-init : goal.loop-i-init
loop-i-init c = row_begins c.args.tokens c.args.row.now c.args.last c.first_kept-i.result c.args.kept.now.items c.first_kept-i.ensures.end c.first_kept-i.ensures.reached c.first_kept-i.ensures.free

pub loop-i-preserved : goal.loop-i-preserved
loop-i-preserved c =
    row_goes_on c.args.tokens c.args.row.now c.args.last c.loop-i.latest c.loop-i.i c.first_kept-i-in-loop-i.result c.place_in-place.result c.args.kept.now.items c.loop-i.kept.items _
    c.loop-i-test.true c.place_in-place.ensures c.in_ok-push.ensures.items
    c.first_kept-i-in-loop-i.ensures.later c.first_kept-i-in-loop-i.ensures.end c.first_kept-i-in-loop-i.ensures.reached c.first_kept-i-in-loop-i.ensures.free
    c.loop-i.invariant

pub returns : goal.returns
returns c = row_ends c.args.tokens c.args.row.now c.args.last c.loop-i.latest c.loop-i.i c.args.kept.now.items c.loop-i.kept.items c.loop-i-test.false c.loop-i.invariant
