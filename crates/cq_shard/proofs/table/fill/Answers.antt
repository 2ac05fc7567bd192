use Rattle.cq_shard.specs.Blocks.{puts_in}
use Rattle.cq_shard.proofs.Taking.{rising_part}
use Rattle.cq_shard.proofs.table.fill.Goals as goal

pub push_block-requires-clause-rising : goal.push_block-requires-clause-rising
push_block-requires-clause-rising c = rising_part (puts_in c.args.blocks.now.items) c.args.changes.now c.at_most-few.result c.requires.rising

pub append_last-requires-clause-rising : goal.append_last-requires-clause-rising
append_last-requires-clause-rising c = rising_part (puts_in c.args.blocks.now.items) c.args.changes.now c.at_most-many.result c.requires.rising

pub returns-then-room-eq0-clause-filled : goal.returns-then-room-eq0-clause-filled
returns-then-room-eq0-clause-filled c =
    let pushed = c.in_ok-push_block.ensures.pushed in
    record { some = c.at_most-few.ensures.some; within = c.at_most-few.ensures.within; table = pushed.table; are = pushed.are }

pub returns-clause-filled : goal.returns-clause-filled
returns-clause-filled c =
    let appended = c.in_ok-append_last.ensures.appended in
    record { some = c.at_most-many.ensures.some; within = c.at_most-many.ensures.within; table = appended.table; are = appended.are }
