-- How a command ended, and what that says of its source and its sink.
use Rattle.std.specs.Prelude.{◌≡◌, ◌⊎◌, ℕ, List, Result, Ok, Err, Option, Some, None, IfSome, if◌then◌else◌}
use Rattle.cq_export.specs.declared.exporting.Exported.{Exported}
use Rattle.cq_export.specs.declared.exporting.Exported.TheVariants as exported
use Rattle.cq_io.specs.Causes.{Rose}
use Rattle.cq_io.specs.declared.sink.Sink as sink
use Rattle.cq_io.specs.declared.source.Source as source
use Rattle.cq_lines.specs.declared.ending.End.{End}
use Rattle.cq_lines.specs.declared.ending.End.TheVariants as end
use Rattle.cq_listen.specs.Endings.{IsServedWith}
use Rattle.cq_listen.specs.declared.listening.Served.{Served}
use Rattle.cq_serve_kept.specs.declared.serving.Kept.{Kept}
use Rattle.cq_serve_kept.specs.declared.serving.Kept.TheVariants as logged
use Rattle.cq_shorten.specs.declared.shortening.Shortened.{Shortened}
use Rattle.cq_shorten.specs.declared.shortening.Shortened.TheVariants as shortened
use Rattle.cq_tokask.specs.declared.kept.Asked.{Asked}
use Rattle.cq_tokask.specs.declared.kept.Asked.TheVariants as kept
use Rattle.cq_words.specs.declared.command.Listen.{Listen}
use Rattle.cq_program.specs.declared.status.Status.{Status}
use Rattle.cq_program.specs.declared.status.Status.TheVariants as ended

-- the number with which the process ends
abbrev pub code_of : Status → ℕ
code_of ended.Done = 0
code_of ended.Arguments = 1
code_of ended.ReadFault = 2
code_of ended.WriteFault = 3
code_of ended.Memory = 4
code_of ended.DoorsFault = 5
code_of ended.Spent = 6
code_of ended.LineRefused = 7
code_of ended.FileRefused = 8
code_of ended.TooLarge = 9

-- the status of a run that ends so
abbrev pub status_of : End → Status
status_of end.Finished = ended.Done
status_of end.ReadFault = ended.ReadFault
status_of end.WriteFault = ended.WriteFault
status_of end.Spent = ended.Spent

-- the status of the asking of a kept version
abbrev pub status_of_asked : Asked → Status
status_of_asked kept.Refused = ended.FileRefused
status_of_asked (kept.Ended by) = status_of by

-- the status of the writing of a version
abbrev pub status_of_exported : Exported → Status
status_of_exported exported.Refused = ended.LineRefused
status_of_exported exported.TooLarge = ended.TooLarge
status_of_exported (exported.Ended by) = status_of by

-- the status of the shortening of a log
abbrev pub status_of_shortened : Shortened → Status
status_of_shortened shortened.Refused = ended.LineRefused
status_of_shortened (shortened.Ended by) = status_of by

-- the status of the serving of connections
abbrev pub status_of_served : Served → Status
status_of_served served = if served.failed then ended.DoorsFault else ended.Done

-- the status of a server that keeps a log
abbrev pub status_of_logged : Kept → Status
status_of_logged (logged.Served served) = status_of_served served
status_of_logged logged.Broken = ended.WriteFault
status_of_logged logged.Refused = ended.LineRefused
status_of_logged logged.Spent = ended.Spent
status_of_logged logged.ReadFault = ended.ReadFault
status_of_logged logged.Unbound = ended.DoorsFault

-- how the writing of one line ends a run
abbrev pub end_of : {E : Type 0} → Result (Unit {0}) E → End
end_of (Ok sent) = end.Finished
end_of (Err failed) = end.WriteFault

module _ {S K : Type 0} (from : source.Ghosts S) (onto : sink.Ghosts K) where
  -- What a status says of the source and the sink of a command: a count of faults rose only if that end failed, and
  -- nothing was written if the command was refused or found no memory.
  abbrev pub Ends : Status → S → S → K → K → Type 0
  Ends ended.Done read read_now written written_now = (from.faults read_now ≡ from.faults read) × (onto.faults written_now ≡ onto.faults written)
  Ends ended.ReadFault read read_now written written_now = Rose (from.faults read) (from.faults read_now)
  Ends ended.WriteFault read read_now written written_now = Rose (onto.faults written) (onto.faults written_now)
  Ends ended.Memory read read_now written written_now = written_now ≡ written
  Ends ended.Spent read read_now written written_now = (from.faults read_now ≡ from.faults read) × (onto.faults written_now ≡ onto.faults written)
  Ends ended.LineRefused read read_now written written_now = (from.faults read_now ≡ from.faults read) × (written_now ≡ written)
  Ends ended.FileRefused read read_now written written_now = (from.faults read_now ≡ from.faults read) × (written_now ≡ written)
  Ends ended.TooLarge read read_now written written_now = (from.faults read_now ≡ from.faults read) × (written_now ≡ written)
  Ends _ read read_now written written_now = ⊥

module _ {K : Type 0} (onto : sink.Ghosts K) where
  -- the same of a command that reads nothing
  abbrev pub EndsUnread : Status → K → K → Type 0
  EndsUnread ended.Done written written_now = onto.faults written_now ≡ onto.faults written
  EndsUnread ended.WriteFault written written_now = Rose (onto.faults written) (onto.faults written_now)
  EndsUnread ended.Memory written written_now = written_now ≡ written
  EndsUnread _ written written_now = ⊥

-- What the status of `listen` says of the doors. If it is done, they are bound to the address, and no connection is still to
-- come, if they say so. If memory is refused, no connection was taken.
abbrev pub HasListened : List ℕ → Option (List ℕ) → Option ℕ → Option ℕ → ℕ → ℕ → Status → Type 0
HasListened address bound_now left left_now doors doors_now ended.Done = (bound_now ≡ Some address) × IfSome left (λ _. left_now ≡ Some 0) × (doors_now ≡ doors)
HasListened address bound_now left left_now doors doors_now ended.Memory = (left_now ≡ left) × (doors_now ≡ doors)
HasListened address bound_now left left_now doors doors_now ended.DoorsFault = Rose doors doors_now
HasListened address bound_now left left_now doors doors_now _ = ⊥

-- What `listen` served connections with. If it began to serve, the doors are bound to the address, the settings, workers and sessions are those that were asked for, and the status says
-- whether a call of the doors failed. If it did not, memory was refused, or the doors failed and are bound as before.
abbrev pub HasServed : Listen → Option (List ℕ) → Option (List ℕ) → Status → Option Served → Type 0
HasServed asked bound bound_now status (Some served) = (bound_now ≡ Some asked.address) × IsServedWith asked.settings asked.workers asked.sessions served × (status ≡ status_of_served served)
HasServed asked bound bound_now status None = (status ≡ ended.Memory) ⊎ ((status ≡ ended.DoorsFault) × (bound_now ≡ bound))
