-- What is written of a project's version, by how that ended.
use Rattle.std.specs.Prelude.{◌≡◌, ℕ, List, ◌++◌}
use Rattle.std.specs.Io.KnownBytes.{Appends}
use Rattle.cq_base.specs.declared.change.Change.{Change}
use Rattle.cq_base.specs.declared.settings.Settings.{Settings}
use Rattle.cq_export.specs.Lines.{TakesAll, TakesClosed, TakesMost, TakesRefused}
use Rattle.cq_export.specs.declared.exporting.Exported.{Exported}
use Rattle.cq_export.specs.declared.exporting.Exported.TheVariants as exported
use Rattle.cq_io.specs.Causes.{Rose}
use Rattle.cq_io.specs.declared.sink.Sink as sink
use Rattle.cq_io.specs.declared.source.Source as source
use Rattle.cq_tokask.specs.Exported.{IsOfChanges}
use Rattle.cq_lines.specs.declared.ending.End.TheVariants as end
use Rattle.cq_tokfile.specs.Snapshot.{contents_of, IsTokenFile}
use Rattle.cq_tokform.specs.Sound.{IsSoundBody}
use Rattle.cq_tokform.specs.Spelling.{body}
use Rattle.cq_tokfile.specs.declared.snapshot.Snapshot.{Snapshot}

module _ {K : Type 0} (onto : sink.Ghosts K) (set : Settings) where
  -- the file of the snapshot, or a front of it if the sink failed, or nothing if its body would be too large
  abbrev pub Writes : {L : Type 0} → Snapshot L → K → K → Exported → Type 0
  Writes s written written_now exported.Refused = ⊥
  Writes s written written_now exported.TooLarge = (IsSoundBody (body set (contents_of s)) → ⊥) × (written_now ≡ written)
  Writes s written written_now (exported.Ended end.Finished) = (file : List ℕ) × IsTokenFile set s file × Appends (onto.written written) (onto.written written_now) file × (onto.faults written_now ≡ onto.faults written)
  Writes s written written_now (exported.Ended end.WriteFault) = (front more : List ℕ) × IsTokenFile set s (front ++ more) × Appends (onto.written written) (onto.written written_now) front × Rose (onto.faults written) (onto.faults written_now)
  Writes s written written_now (exported.Ended end.ReadFault) = ⊥
  Writes s written written_now (exported.Ended end.Spent) = ⊥

module _ (L : Type 0) {S K : Type 0} (from : source.Ghosts S) (onto : sink.Ghosts K) (set : Settings) (project : List ℕ) where
  -- all lines are changes that are accepted, and of the snapshot of their version this was written
  pub record WritesVersion (read read_now : S) (written written_now : K) (by : Exported) : Type 0 where
    pub changes : List Change
    pub taken : TakesAll set (from.rest read) (from.rest read_now) changes
    pub read_faults : from.faults read_now ≡ from.faults read
    pub snapshot : Snapshot L
    pub is : IsOfChanges set changes project snapshot
    pub writes : Writes onto set snapshot written written_now by

  abbrev pub Exports : S → S → K → K → Exported → Type 0
  Exports read read_now written written_now exported.Refused = ((changes : List Change) × TakesRefused set (from.rest read) (from.rest read_now) changes) × (from.faults read_now ≡ from.faults read) × (written_now ≡ written)
  Exports read read_now written written_now exported.TooLarge = WritesVersion read read_now written written_now exported.TooLarge
  Exports read read_now written written_now (exported.Ended end.Finished) = WritesVersion read read_now written written_now (exported.Ended end.Finished)
  Exports read read_now written written_now (exported.Ended end.WriteFault) = WritesVersion read read_now written written_now (exported.Ended end.WriteFault)
  Exports read read_now written written_now (exported.Ended end.ReadFault) = ((changes : List Change) × TakesClosed set (from.rest read) (from.rest read_now) changes) × Rose (from.faults read) (from.faults read_now) × (written_now ≡ written)
  Exports read read_now written written_now (exported.Ended end.Spent) = ((changes : List Change) × TakesMost set (from.rest read) (from.rest read_now) changes) × (from.faults read_now ≡ from.faults read) × (written_now ≡ written)
