-- What the clauses of the top call come to if nothing fails: a command is done, unless memory was refused.
use Rattle.std.specs.Prelude.{◌≡◌, ◌≢◌, ◌⊎◌, ◌<◌, ◌-◌, ◌^◌, ℕ, List, length, Option, Some}
use Rattle.cq_base.specs.declared.settings.Settings.{Settings}
use Rattle.cq_io.specs.declared.sink.Sink as sink
use Rattle.cq_io.specs.declared.source.Source as source
use Rattle.cq_words.specs.declared.command.Export.{Export}
use Rattle.cq_program.specs.Statuses.{HasListened}
use Rattle.cq_program.specs.Top.{AsksFile, ExportsFile, IsSession, IsSessionBeside, IsDrive, IsMade}
use Rattle.cq_program.specs.declared.status.Status.{Status}
use Rattle.cq_program.specs.declared.status.Status.TheVariants as ended

-- the count of faults is as it was, and below the last value of a counter of 64 bits
abbrev pub IsQuiet : ℕ → ℕ → Type 0
IsQuiet before now = (now ≡ before) × (now < 2 ^ 64 - 1)

-- what is left to read is told, and is less than may be read
abbrev pub HasFewer : ℕ → Option (List ℕ) → Type 0
HasFewer limit rest = (bytes : List ℕ) × (rest ≡ Some bytes) × (length bytes < limit)

-- unless memory was refused, everything was done
abbrev pub IsDone : Status → Type 0
IsDone status = status ≢ ended.Memory → status ≡ ended.Done

-- a session of whose ends none failed has answered the lines to the end, if fewer bytes came than may be read
abbrev pub SessionsComplete : Type 0
SessionsComplete = (set : Settings) (reads reads_now : ℕ) (rest rest_now before written_now : Option (List ℕ)) (source source_now sink sink_now : ℕ) (status : Status) →
    (status ≢ ended.Memory → IsSession set reads reads_now rest rest_now before written_now source source_now sink sink_now status) →
    IsQuiet source source_now → IsQuiet sink sink_now → HasFewer set.byte_limit rest → IsDone status

-- and so has one with workers beside it
abbrev pub SessionsBesideComplete : Type 0
SessionsBesideComplete = (set : Settings) (workers reads reads_now : ℕ) (rest rest_now before written_now : Option (List ℕ)) (source source_now sink sink_now : ℕ) (status : Status) →
    (status ≢ ended.Memory → IsSessionBeside set workers reads reads_now rest rest_now before written_now source source_now sink sink_now status) →
    IsQuiet source source_now → IsQuiet sink sink_now → HasFewer set.byte_limit rest → IsDone status

-- and a script
abbrev pub ScriptsComplete : Type 0
ScriptsComplete = (set : Settings) (rest rest_now before written_now : Option (List ℕ)) (source source_now sink sink_now : ℕ) (status : Status) →
    (status ≢ ended.Memory → IsDrive set rest rest_now before written_now source source_now sink sink_now status) →
    IsQuiet source source_now → IsQuiet sink sink_now → HasFewer set.byte_limit rest → IsDone status

-- a made project is reported if the sink did not fail
abbrev pub MadeComplete : Type 0
MadeComplete = (number files : ℕ) (before written_now : Option (List ℕ)) (sink sink_now : ℕ) (status : Status) →
    (status ≢ ended.Memory → IsMade number files before written_now sink sink_now status) →
    IsQuiet sink sink_now → IsDone status

-- no connection is left to come if the doors did not fail
abbrev pub ListensComplete : Type 0
ListensComplete = (address : List ℕ) (bound_now : Option (List ℕ)) (left left_now : Option ℕ) (doors doors_now : ℕ) (status : Status) →
    HasListened address bound_now left left_now doors doors_now status →
    IsQuiet doors doors_now → IsDone status

module _ (L : Type 0) {S K : Type 0} (from : source.Ghosts S) (onto : sink.Ghosts K) where
  -- a kept version is asked to the end, or the source begins with no token file
  abbrev pub AsksComplete : Type 0
  AsksComplete = (set : Settings) (read read_now : S) (written written_now : K) (status : Status) →
      AsksFile L from onto set read read_now written written_now status →
      IsQuiet (from.faults read) (from.faults read_now) → IsQuiet (onto.faults written) (onto.faults written_now) → HasFewer set.byte_limit (from.rest read) →
      status ≢ ended.Memory → (status ≡ ended.Done) ⊎ (status ≡ ended.FileRefused)

  -- a version is written, or a line is no change that is accepted, or the file would be too large
  abbrev pub ExportsComplete : Type 0
  ExportsComplete = (asked : Export) (read read_now : S) (written written_now : K) (status : Status) →
      ExportsFile L from onto asked read read_now written written_now status →
      IsQuiet (from.faults read) (from.faults read_now) → IsQuiet (onto.faults written) (onto.faults written_now) → HasFewer asked.settings.byte_limit (from.rest read) →
      status ≢ ended.Memory → (status ≡ ended.Done) ⊎ ((status ≡ ended.LineRefused) ⊎ (status ≡ ended.TooLarge))
