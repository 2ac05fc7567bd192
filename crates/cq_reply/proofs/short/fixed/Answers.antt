use Rattle.std.proofs.Common.{◌∙◌, sym, ap}
use Rattle.cq_reply.specs.Written.{line_of, reply_of}
use Rattle.cq_reply.proofs.Shorts.{change_line, pending_line, long_line, memory_line}
use Rattle.cq_reply.proofs.short.fixed.Goals as goal

pub returns-in-Change : goal.returns-in-Change
returns-in-Change c = c.numbered.ensures ∙ change_line c.in-Change.number ∙ ap (λ s. line_of (reply_of s)) (sym c.in-Change.is)

pub returns-in-Pending : goal.returns-in-Pending
returns-in-Pending c = c.numbered-in-Pending.ensures ∙ pending_line c.in-Pending.number ∙ ap (λ s. line_of (reply_of s)) (sym c.in-Pending.is)

pub returns-in-Long : goal.returns-in-Long
returns-in-Long c = c.of_parts.ensures ∙ long_line ∙ ap (λ s. line_of (reply_of s)) (sym c.in-Long.is)

pub returns-in-Memory : goal.returns-in-Memory
returns-in-Memory c = c.of_parts-in-Memory.ensures ∙ memory_line ∙ ap (λ s. line_of (reply_of s)) (sym c.in-Memory.is)
