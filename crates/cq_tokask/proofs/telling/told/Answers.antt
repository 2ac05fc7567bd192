use Rattle.cq_reply.specs.declared.reply.Reply.TheVariants as reply
use Rattle.cq_tokask.proofs.Said.{answers, tells_memory}
use Rattle.cq_tokask.proofs.telling.told.Goals as goal

pub returns-in-Ok-line_of-clause-told : goal.returns-in-Ok-line_of-clause-told
returns-in-Ok-line_of-clause-told g c =
    (c.in-Ok.reply, answers c.args.kept.now.snapshot.now c.args.kept.now.settings.now c.args.line.now c.in-Ok.reply c.requires.short c.in-Ok.ensures.answers, c.in-Ok-line_of.ensures.line)

pub returns-in-Ok-clause-told : goal.returns-in-Ok-clause-told
returns-in-Ok-clause-told g c = (reply.Memory, tells_memory c.args.kept.now.snapshot.now c.args.kept.now.settings.now c.args.line.now c.requires.short, c.fixed.ensures)

pub returns-clause-told : goal.returns-clause-told
returns-clause-told g c = (reply.Memory, tells_memory c.args.kept.now.snapshot.now c.args.kept.now.settings.now c.args.line.now c.requires.short, c.fixed-in-Err.ensures)
