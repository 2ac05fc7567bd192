-- What is printed of how a run ended.
use Rattle.std.specs.Prelude.{ℕ, List, Option, None, Some, codes}
use Rattle.cq_program.specs.declared.status.Status.{Status}
use Rattle.cq_program.specs.declared.status.Status.TheVariants as ended

-- the line on standard error, if there is one
abbrev pub line_of : Status → Option (List ℕ)
line_of ended.Done = None
line_of ended.Arguments = Some (codes "cqd: words refused")
line_of ended.ReadFault = Some (codes "cqd: read fault")
line_of ended.WriteFault = Some (codes "cqd: write fault")
line_of ended.Memory = Some (codes "cqd: out of memory")
line_of ended.DoorsFault = Some (codes "cqd: doors failed")
line_of ended.Spent = Some (codes "cqd: byte limit")
line_of ended.LineRefused = Some (codes "cqd: line refused")
line_of ended.FileRefused = Some (codes "cqd: token file refused")
line_of ended.TooLarge = Some (codes "cqd: too large")
