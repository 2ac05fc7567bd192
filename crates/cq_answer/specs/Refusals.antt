-- Replies to changes that are not accepted.
use Rattle.cq_board.specs.declared.answers.Refused.{Refused}
use Rattle.cq_board.specs.declared.answers.Refused.TheVariants as refused
use Rattle.cq_reply.specs.declared.reply.Reply.{Reply}
use Rattle.cq_reply.specs.declared.reply.Reply.TheVariants as reply
use Rattle.cq_base.specs.declared.refusal.Refusal.TheVariants as refusal

-- the reply to a change that is not accepted for this cause
abbrev pub cause_told : Refused → Reply
cause_told refused.Absent = reply.Refused refusal.Absent
cause_told refused.FullChanges = reply.Refused refusal.FullChanges
cause_told refused.FullText = reply.Refused refusal.FullText
cause_told refused.Memory = reply.Memory
