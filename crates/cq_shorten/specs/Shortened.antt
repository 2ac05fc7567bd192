-- What is written of a log that is shortened, by how that ended.
use Rattle.std.specs.Prelude.{◌≡◌, ℕ, Bool, false, List, ◌++◌, flat_map, Some}
use Rattle.std.specs.Io.KnownBytes.{Appends, Consumes, IsAtEnd}
use Rattle.cq_base.specs.declared.change.Change.{Change}
use Rattle.cq_base.specs.declared.settings.Settings.{Settings}
use Rattle.cq_io.specs.Causes.{Rose}
use Rattle.cq_io.specs.declared.sink.Sink as sink
use Rattle.cq_io.specs.declared.source.Source as source
use Rattle.cq_lines.specs.Pieces.{ended}
use Rattle.cq_lines.specs.declared.ending.End.TheVariants as end
use Rattle.cq_log.specs.Logs.{front_of, held_by}
use Rattle.cq_log.specs.Reads.{ReadsMost, ReadsNone}
use Rattle.cq_shorten.specs.Needed.{needed_changes, needed_lines}
use Rattle.cq_shorten.specs.declared.shortening.Shortened.{Shortened}
use Rattle.cq_shorten.specs.declared.shortening.Shortened.TheVariants as shortened

module _ {S K : Type 0} (from : source.Ghosts S) (onto : sink.Ghosts K) (set : Settings) where
  -- the whole source is a log, whose changes and their lines are these
  pub record ReadsLog (read read_now : S) : Type 0 where
    pub got : List ℕ
    pub bytes : Consumes (from.rest read) (from.rest read_now) got
    pub at_end : IsAtEnd (from.rest read_now)
    pub faults : from.faults read_now ≡ from.faults read
    pub own : List (List ℕ)
    pub changes : List Change
    pub torn : Bool
    pub held : held_by set got ≡ Some (front_of own changes torn)

  -- what is needed of the log, each line with its line feed
  abbrev pub out_of : {read read_now : S} → ReadsLog read read_now → List ℕ
  out_of log = flat_map ended (needed_lines log.changes log.own)

  abbrev pub Shortens : S → S → K → K → Shortened → Type 0
  Shortens read read_now written written_now shortened.Refused = ReadsNone from set read read_now × (written_now ≡ written)
  Shortens read read_now written written_now (shortened.Ended end.Finished) = (log : ReadsLog read read_now) × Appends (onto.written written) (onto.written written_now) (out_of log) × (onto.faults written_now ≡ onto.faults written)
  Shortens read read_now written written_now (shortened.Ended end.WriteFault) =
      (log : ReadsLog read read_now) × (front more : List ℕ) × (front ++ more ≡ out_of log) × Appends (onto.written written) (onto.written written_now) front × Rose (onto.faults written) (onto.faults written_now)
  Shortens read read_now written written_now (shortened.Ended end.ReadFault) = Rose (from.faults read) (from.faults read_now) × (written_now ≡ written)
  Shortens read read_now written written_now (shortened.Ended end.Spent) = ReadsMost from set read read_now × (written_now ≡ written)

-- what is written is a log that holds just the changes that were needed
abbrev pub AShortLogIsALog : Type 0
AShortLogIsALog =
    (set : Settings) (bytes : List ℕ) (own : List (List ℕ)) (changes : List Change) (torn : Bool) → held_by set bytes ≡ Some (front_of own changes torn)
    → held_by set (flat_map ended (needed_lines changes own)) ≡ Some (front_of (needed_lines changes own) (needed_changes changes) false)
