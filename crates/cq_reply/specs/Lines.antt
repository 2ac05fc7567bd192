-- The line of a reply, and which of them need memory.
use Rattle.std.specs.Prelude.{ℕ, List}
use Rattle.cq_reply.specs.declared.reply.Reply.{Reply}
use Rattle.cq_reply.specs.declared.reply.Reply.TheVariants as reply
use Rattle.cq_reply.specs.declared.line.Line.{Line}
use Rattle.cq_reply.specs.declared.line.Line.TheVariants as line

-- the bytes of a line that was made with or without memory
abbrev pub bytes_of : Line → List ℕ
bytes_of (line.Made text) = text
bytes_of (line.Short text) = text

-- its line is made in memory, and so it may fail
abbrev pub NeedsMemory : Reply → Type 0
NeedsMemory (reply.Change n) = ⊥
NeedsMemory (reply.Pending n) = ⊥
NeedsMemory reply.Long = ⊥
NeedsMemory reply.Memory = ⊥
NeedsMemory _ = Unit {0}
