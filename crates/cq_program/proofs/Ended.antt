-- What the status of a command says of its source and its sink, or of its doors, by how the command ended.
use Rattle.std.proofs.Common.{◌≡◌, ℕ, Bool, true, false, List, Option, Some, ap, inl, inr, refl, subst, sym}
use Rattle.std.specs.Prelude.{if◌then◌else◌}
use Rattle.cq_base.specs.declared.settings.Settings.{Settings}
use Rattle.cq_export.specs.Exports.{Exports}
use Rattle.cq_export.specs.declared.exporting.Exported.{Exported}
use Rattle.cq_export.specs.declared.exporting.Exported.TheVariants as exported
use Rattle.cq_io.specs.declared.sink.Sink as sink
use Rattle.cq_io.specs.declared.source.Source as source
use Rattle.cq_lines.specs.Serving.{HasCauseOfEnd}
use Rattle.cq_lines.specs.declared.ending.End.{End}
use Rattle.cq_lines.specs.declared.ending.End.TheVariants as end
use Rattle.cq_listen.specs.Endings.{HasEnded}
use Rattle.cq_program.specs.Statuses.{Ends, EndsUnread, HasListened, status_of, status_of_asked, status_of_exported}
use Rattle.cq_program.specs.declared.status.Status.{Status}
use Rattle.cq_program.specs.declared.status.Status.TheVariants as ended
use Rattle.cq_tokask.specs.Kept.{Asks}
use Rattle.cq_tokask.specs.declared.kept.Asked.{Asked}
use Rattle.cq_tokask.specs.declared.kept.Asked.TheVariants as kept

module _ {S K : Type 0} (from : source.Ghosts S) (onto : sink.Ghosts K) (read read_now : S) (written written_now : K) where
  pub ended_by : (by : End) → HasCauseOfEnd from onto read read_now written written_now by → Ends from onto (status_of by) read read_now written written_now
  ended_by end.Finished cause = cause
  ended_by end.ReadFault cause = cause.0
  ended_by end.WriteFault cause = cause.0
  ended_by end.Spent cause = cause

-- a command that read nothing
pub unread : {S K : Type 0} (from : source.Ghosts S) (onto : sink.Ghosts K) (read : S) (written written_now : K) (status : Status) → EndsUnread onto status written written_now → Ends from onto status read read written written_now
unread from onto read written written_now ended.Done says = (refl, says)
unread from onto read written written_now ended.WriteFault says = says
unread from onto read written written_now ended.Memory says = says
unread from onto read written written_now ended.Arguments says = absurd says
unread from onto read written written_now ended.ReadFault says = absurd says
unread from onto read written written_now ended.DoorsFault says = absurd says
unread from onto read written written_now ended.Spent says = absurd says
unread from onto read written written_now ended.LineRefused says = absurd says
unread from onto read written written_now ended.FileRefused says = absurd says
unread from onto read written written_now ended.TooLarge says = absurd says

module _ (L : Type 0) {S K : Type 0} (from : source.Ghosts S) (onto : sink.Ghosts K) (set : Settings) (read read_now : S) (written written_now : K) where
  -- whether it ended before the file was whole or after it
  cause_of : (by : End) → Asks L from onto set read read_now written written_now (kept.Ended by) → HasCauseOfEnd from onto read read_now written written_now by
  cause_of by (inl first) = subst (λ (e : End). HasCauseOfEnd from onto read read_now written written_now e) (sym first.ended) (first.rose, ap onto.faults first.unwritten)
  cause_of by (inr answered) = answered.1

  pub ended_asked : (by : Asked) → Asks L from onto set read read_now written written_now by → Ends from onto (status_of_asked by) read read_now written written_now
  ended_asked kept.Refused asks = (asks.1, asks.2)
  ended_asked (kept.Ended by) asks = ended_by from onto read read_now written written_now by (cause_of by asks)

  pub ended_exported : (project : List ℕ) (by : Exported) → Exports L from onto set project read read_now written written_now by → Ends from onto (status_of_exported by) read read_now written written_now
  ended_exported project exported.Refused exports = (exports.1, exports.2)
  ended_exported project exported.TooLarge exports = (exports.read_faults, exports.writes.1)
  ended_exported project (exported.Ended end.Finished) exports = (exports.read_faults, exports.writes.3)
  ended_exported project (exported.Ended end.ReadFault) exports = exports.1
  ended_exported project (exported.Ended end.WriteFault) exports = exports.writes.4
  ended_exported project (exported.Ended end.Spent) exports = (exports.1, ap onto.faults exports.2)

-- connections that were served, by whether a call of the doors failed
pub listened : (address : List ℕ) (bound_now : Option (List ℕ)) (left left_now : Option ℕ) (doors doors_now : ℕ) (failed : Bool) → bound_now ≡ Some address → HasEnded doors doors_now left left_now failed
    → HasListened address bound_now left left_now doors doors_now (if failed then ended.DoorsFault else ended.Done)
listened address bound_now left left_now doors doors_now true bound rose = rose
listened address bound_now left left_now doors doors_now false bound none = (bound, none.1, none.0)
