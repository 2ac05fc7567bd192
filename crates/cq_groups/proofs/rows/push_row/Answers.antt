use Rattle.std.proofs.Common.{arith}
use Rattle.cq_groups.proofs.RowLaws.{alone_added, row_added}
use Rattle.cq_groups.proofs.rows.push_row.Goals as goal

pub last_at-at-requires : goal.last_at-at-requires
last_at-at-requires c = c.requires (omega (arith, c.if-row-eq0.false))

pub returns-then-row-eq0 : goal.returns-then-row-eq0
returns-then-row-eq0 c = alone_added c.args.row c.args.rows.now.items _ c.if-row-eq0.true c.in_ok-push.ensures.items

pub returns : goal.returns
returns c = row_added c.args.row c.last_at-at.result c.args.rows.now.items _ _ (omega (arith, c.if-row-eq0.false)) c.last_at-at.ensures c.in_ok-push-2.ensures.items c.in_ok-push-3.ensures.items
