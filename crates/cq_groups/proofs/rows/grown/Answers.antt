use Rattle.std.proofs.Common.{◌+◌, ◌<◌, ◌^◌, arith, rules}
use Rattle.std.proofs.Math.Nat.{one-mul, add-mul}
use Rattle.cq_groups.proofs.RowLaws.{row_grown, at_most_times}
use Rattle.cq_groups.proofs.rows.grown.Goals as goal

pub overflow_add-result : goal.overflow_add-result
overflow_add-result c =
    let row = c.args.row.now in
    let m = add-mul row.others 1 row.gap in
    let o = one-mul row.gap in
    let inside : c.args.spot.place.at < 2 ^ 32 = search rules in
    let h = at_most_times (row.others + 1) row.gap c.requires.steps.some in
    omega (arith, m, o, h, c.last_at-last.ensures, c.if-spot-last.false, c.if-spot-last-2.false, inside)

pub returns : goal.returns
returns c =
    let inside : c.args.spot.place.at < 2 ^ 32 = search rules in
    row_grown c.args.row.now c.args.spot c.args.depth c.requires.steps
    c.if-spot-row.false
    c.if-spot-row-2.false
    (omega (arith, c.last_at-last.ensures, c.if-spot-last.false, c.if-spot-last-2.false))
    inside
