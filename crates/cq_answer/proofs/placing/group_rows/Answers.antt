use Rattle.std.proofs.Common.{sym}
use Rattle.cq_answer.proofs.placing.group_rows.Goals as goal

pub group_row-requires : goal.group_row-requires
group_row-requires g c = c.requires _ (c.loop-group.group-index, c.loop-group-test.true, sym c.group-item.is)
