use Rattle.std.proofs.Common.{◌-◌, ◌<◌, ◌^◌, arith, rules}
use Rattle.cq_groups.proofs.RowLaws.{row_of_two}
use Rattle.cq_groups.proofs.rows.begun.Goals as goal

pub returns : goal.returns
returns c =
    let inside : c.args.second.place.at < 2 ^ 32 = search rules in
    row_of_two c.args.first c.args.second (c.args.second.place.at - c.args.first.place.at) c.args.depth
    c.if-second-first.false
    (omega (arith, c.if-second-first-2.false))
    (omega (arith, c.if-second-first-2.false))
    (omega (arith, c.if-gap-depth.false))
    inside
