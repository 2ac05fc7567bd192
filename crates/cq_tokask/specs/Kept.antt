-- What is written for a source that begins with a token file.
use Rattle.std.specs.Prelude.{◌≡◌, ◌⊎◌, ℕ, List, [], ◌++◌, Option, IfSome}
use Rattle.std.specs.Io.KnownBytes.{Consumes}
use Rattle.cq_base.specs.declared.settings.Settings.{Settings}
use Rattle.cq_io.specs.Causes.{Rose}
use Rattle.cq_io.specs.declared.sink.Sink as sink
use Rattle.cq_io.specs.declared.source.Source as source
use Rattle.cq_tokask.specs.Asked.{AnswersLines}
use Rattle.cq_tokask.specs.declared.kept.Asked.{Asked}
use Rattle.cq_tokask.specs.declared.kept.Asked.TheVariants as asked
use Rattle.cq_lines.specs.Serving.{Serves, HasCauseOfEnd}
use Rattle.cq_lines.specs.declared.ending.End.{End}
use Rattle.cq_lines.specs.declared.ending.End.TheVariants as end
use Rattle.cq_reply.specs.Written.{line_of}
use Rattle.cq_tokfile.specs.declared.snapshot.Snapshot.{Snapshot}
use Rattle.cq_tokfile.specs.Snapshot.{IsTokenFile}

-- memory was refused: if what was taken begins with a token file of these settings, nothing after it was taken
pub record TakesNoLine (L : Type 0) {S : Type 0} (from : source.Ghosts S) (set : Settings) (read read_now : S) : Type 0 where
  pub got : List ℕ
  pub taken : Consumes (from.rest read) (from.rest read_now) got
  pub none_behind : (s : Snapshot L) (file behind : List ℕ) → got ≡ file ++ behind → IsTokenFile set s file → behind ≡ []

module _ (L : Type 0) {S K : Type 0} (from : source.Ghosts S) (onto : sink.Ghosts K) (set : Settings) where
  -- no front of the bytes is a token file of these settings
  abbrev pub BeginsWithNoFile : List ℕ → Type 0
  BeginsWithNoFile bytes = (s : Snapshot L) (file rest : List ℕ) → bytes ≡ file ++ rest → IsTokenFile set s file → ⊥

  -- the file at the front was taken, and the lines after it have their replies from its snapshot
  pub record Answers (read read_now : S) (written written_now : K) (by : End) : Type 0 where
    pub snapshot : Snapshot L
    pub file : List ℕ
    pub is_file : IsTokenFile set snapshot file
    pub behind : Option (List ℕ)
    pub taken : Consumes (from.rest read) behind file
    pub serves : Serves line_of (AnswersLines snapshot set) set.byte_limit behind (from.rest read_now) (onto.written written) (onto.written written_now) by

  -- a read failed before the file was whole: what was taken begins with no token file, and nothing was written
  pub record FailsFirst (read read_now : S) (written written_now : K) (by : End) : Type 0 where
    pub ended : by ≡ end.ReadFault
    pub got : List ℕ
    pub taken : Consumes (from.rest read) (from.rest read_now) got
    pub unfinished : BeginsWithNoFile got
    pub rose : Rose (from.faults read) (from.faults read_now)
    pub unwritten : written_now ≡ written

  abbrev pub Asks : S → S → K → K → Asked → Type 0
  Asks read read_now written written_now asked.Refused = IfSome (from.rest read) BeginsWithNoFile × (from.faults read_now ≡ from.faults read) × (written_now ≡ written)
  Asks read read_now written written_now (asked.Ended by) =
      FailsFirst read read_now written written_now by ⊎ (Answers read read_now written written_now by × HasCauseOfEnd from onto read read_now written written_now by)
