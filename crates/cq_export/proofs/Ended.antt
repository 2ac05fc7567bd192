-- How the writing of a version ends the whole.
use Rattle.std.proofs.Common.{◌≡◌, ℕ, List}
use Rattle.cq_base.specs.declared.change.Change.{Change}
use Rattle.cq_base.specs.declared.settings.Settings.{Settings}
use Rattle.cq_export.specs.Exports.{Writes, Exports}
use Rattle.cq_export.specs.Lines.{TakesAll}
use Rattle.cq_export.specs.declared.exporting.Exported.{Exported}
use Rattle.cq_export.specs.declared.exporting.Exported.TheVariants as exported
use Rattle.cq_io.specs.declared.sink.Sink as sink
use Rattle.cq_io.specs.declared.source.Source as source
use Rattle.cq_tokask.specs.Exported.{IsOfChanges}
use Rattle.cq_lines.specs.declared.ending.End.TheVariants as end
use Rattle.cq_tokfile.specs.declared.snapshot.Snapshot.{Snapshot}

module _ (L : Type 0) {S K : Type 0} (from : source.Ghosts S) (onto : sink.Ghosts K) (set : Settings) (project : List ℕ) (read read_now : S) (written written_now : K) where
  pub written_of : (changes : List Change) (s : Snapshot L) → TakesAll set (from.rest read) (from.rest read_now) changes → from.faults read_now ≡ from.faults read → IsOfChanges set changes project s → (by : Exported) → Writes onto set s written written_now by → Exports L from onto set project read read_now written written_now by
  written_of changes s taken faults is exported.Refused writes = absurd writes
  written_of changes s taken faults is exported.TooLarge writes = record { changes = changes; taken = taken; read_faults = faults; snapshot = s; is = is; writes = writes }
  written_of changes s taken faults is (exported.Ended end.Finished) writes = record { changes = changes; taken = taken; read_faults = faults; snapshot = s; is = is; writes = writes }
  written_of changes s taken faults is (exported.Ended end.WriteFault) writes = record { changes = changes; taken = taken; read_faults = faults; snapshot = s; is = is; writes = writes }
  written_of changes s taken faults is (exported.Ended end.ReadFault) writes = absurd writes
  written_of changes s taken faults is (exported.Ended end.Spent) writes = absurd writes
