use Rattle.cq_groups.proofs.RowLaws.{some_rows}
use Rattle.cq_groups.proofs.sets.may_give.Goals as goal

pub have_one_left-requires : goal.have_one_left-requires
have_one_left-requires c = some_rows c.args.rows.now (c.are_several.ensures.0 c.if-are_several.true)
