-- A command that no end failed is done, unless memory was refused.
use Rattle.std.proofs.Common.{◌≡◌, ◌⊎◌, ◌<◌, ℕ, ◌+◌, List, length, Option, Some, None, Result, Ok, Err, refl, ap, ◌∙◌, subst, inl, inr, ⊎_elim, arith, length-append}
use Rattle.std.specs.Io.KnownBytes.{Consumes}
use Rattle.cq_base.specs.declared.settings.Settings.{Settings}
use Rattle.cq_io.specs.Causes.{Rose, HasCause}
use Rattle.cq_io.specs.declared.sink.Sink as sink
use Rattle.cq_io.specs.declared.source.Failed.{Failed}
use Rattle.cq_io.specs.declared.source.Source as source
use Rattle.cq_tokask.specs.Asked.{AnswersLines}
use Rattle.cq_tokask.specs.Kept.{Asks}
use Rattle.cq_tokask.specs.declared.kept.Asked.{Asked}
use Rattle.cq_tokask.specs.declared.kept.Asked.TheVariants as kept
use Rattle.cq_drive.specs.Script.{IsScript}
use Rattle.cq_beside.specs.Replies.{AreWithWorkers}
use Rattle.cq_lines.specs.Serving.{Serves, HasEndCause}
use Rattle.cq_lines.specs.declared.ending.End.{End}
use Rattle.cq_lines.specs.declared.ending.End.TheVariants as end
use Rattle.cq_drive.specs.Outcomes.{line_of as outcome_line}
use Rattle.cq_reply.specs.Written.{line_of as reply_line}
use Rattle.cq_export.specs.Exports.{Exports}
use Rattle.cq_export.specs.declared.exporting.Exported.{Exported}
use Rattle.cq_export.specs.declared.exporting.Exported.TheVariants as exported
use Rattle.cq_program.specs.Statuses.{status_of, status_of_asked, status_of_exported, end_of}
use Rattle.cq_program.specs.Top.{AreAlone}
use Rattle.cq_program.specs.Complete.{IsQuiet, HasFewer, SessionsComplete, SessionsBesideComplete, ScriptsComplete, MadeComplete, ListensComplete, AsksComplete, ExportsComplete}
use Rattle.cq_program.specs.declared.status.Status.TheVariants as ended

not_rose : (before now : ℕ) → IsQuiet before now → Rose before now → ⊥
not_rose before now quiet (inl less) = omega (arith, less, quiet.0)
not_rose before now quiet (inr last) = omega (arith, last, quiet.1)

not_spent_of : (bytes : List ℕ) (limit : ℕ) (rest_now : Option (List ℕ)) (got : List ℕ) → Consumes (Some bytes) rest_now got → length got ≡ limit → length bytes < limit → ⊥
not_spent_of bytes limit None got none all fewer = none
not_spent_of bytes limit (Some ys) got same all fewer = omega (arith, ap length same, length-append got ys, all, fewer)

not_spent : (limit : ℕ) (rest rest_now : Option (List ℕ)) (got : List ℕ) → Consumes rest rest_now got → length got ≡ limit → HasFewer limit rest → ⊥
not_spent limit rest rest_now got bytes all few = not_spent_of few.0 limit rest_now got (subst (λ (r : Option (List ℕ)). Consumes r rest_now got) few.1 bytes) all few.2

module _ {R : Type 0} (line_of : R → List ℕ) (Are : List (List ℕ) → List R → Type 0) where
  done_by : (limit : ℕ) (rest rest_now before written_now : Option (List ℕ)) (source source_now sink sink_now : ℕ) (by : End) → Serves line_of Are limit rest rest_now before written_now by → HasEndCause source source_now sink sink_now by → IsQuiet source source_now → IsQuiet sink sink_now → HasFewer limit rest → status_of by ≡ ended.Done
  done_by limit rest rest_now before written_now source source_now sink sink_now end.Finished serves cause read written few = refl
  done_by limit rest rest_now before written_now source source_now sink sink_now end.Spent serves cause read written few = absurd (not_spent limit rest rest_now serves.got serves.bytes serves.served.0 few)
  done_by limit rest rest_now before written_now source source_now sink sink_now end.ReadFault serves cause read written few = absurd (not_rose source source_now read cause.0)
  done_by limit rest rest_now before written_now source source_now sink sink_now end.WriteFault serves cause read written few = absurd (not_rose sink sink_now written cause.0)

made_by : (sink sink_now : ℕ) (by : Result (Unit {0}) Failed) → HasCause sink sink_now by → IsQuiet sink sink_now → status_of (end_of by) ≡ ended.Done
made_by sink sink_now (Ok sent) cause written = refl
made_by sink sink_now (Err failed) cause written = absurd (not_rose sink sink_now written cause.failed)

pub sessions_complete : SessionsComplete
sessions_complete set reads reads_now rest rest_now before written_now source source_now sink sink_now status is read written few other =
    let s = is other in
    s.status_is ∙ done_by reply_line (AreAlone set reads reads_now) set.byte_limit rest rest_now before written_now source source_now sink sink_now s.by s.serves s.cause read written few

pub sessions_beside_complete : SessionsBesideComplete
sessions_beside_complete set workers reads reads_now rest rest_now before written_now source source_now sink sink_now status is read written few other =
    let s = is other in
    s.status_is ∙ done_by reply_line (AreWithWorkers set (workers + 2) workers reads reads_now) set.byte_limit rest rest_now before written_now source source_now sink sink_now s.by s.serves s.cause read written few

pub scripts_complete : ScriptsComplete
scripts_complete set rest rest_now before written_now source source_now sink sink_now status is read written few other =
    let s = is other in
    s.status_is ∙ done_by outcome_line (IsScript set) set.byte_limit rest rest_now before written_now source source_now sink sink_now s.by s.serves s.cause read written few

pub made_complete : MadeComplete
made_complete number files before written_now sink sink_now status is written other =
    let m = is other in
    m.status_is ∙ made_by sink sink_now m.by m.cause written

pub listens_complete : ListensComplete
listens_complete address bound_now left left_now doors doors_now ended.Done listened quiet other = refl
listens_complete address bound_now left left_now doors doors_now ended.Memory listened quiet other = absurd (other refl)
listens_complete address bound_now left left_now doors doors_now ended.DoorsFault listened quiet other = absurd (not_rose doors doors_now quiet listened)
listens_complete address bound_now left left_now doors doors_now ended.Arguments listened quiet other = absurd listened
listens_complete address bound_now left left_now doors doors_now ended.ReadFault listened quiet other = absurd listened
listens_complete address bound_now left left_now doors doors_now ended.WriteFault listened quiet other = absurd listened
listens_complete address bound_now left left_now doors doors_now ended.Spent listened quiet other = absurd listened
listens_complete address bound_now left left_now doors doors_now ended.LineRefused listened quiet other = absurd listened
listens_complete address bound_now left left_now doors doors_now ended.FileRefused listened quiet other = absurd listened
listens_complete address bound_now left left_now doors doors_now ended.TooLarge listened quiet other = absurd listened

-- what is left after some bytes is fewer than they were with it
fewer_of : (limit : ℕ) (bytes : List ℕ) (behind : Option (List ℕ)) (file : List ℕ) → Consumes (Some bytes) behind file → length bytes < limit → HasFewer limit behind
fewer_of limit bytes None file none fewer = absurd none
fewer_of limit bytes (Some left) file same fewer = (left, refl, omega (arith, ap length same, length-append file left, fewer))

fewer_behind : (limit : ℕ) (rest behind : Option (List ℕ)) (file : List ℕ) → Consumes rest behind file → HasFewer limit rest → HasFewer limit behind
fewer_behind limit rest behind file taken few = fewer_of limit few.0 behind file (subst (λ (r : Option (List ℕ)). Consumes r behind file) few.1 taken) few.2

module _ (L : Type 0) {S K : Type 0} (from : source.Ghosts S) (onto : sink.Ghosts K) where
  asked_by : (set : Settings) (read read_now : S) (written written_now : K) (by : Asked) → Asks L from onto set read read_now written written_now by → IsQuiet (from.faults read) (from.faults read_now) → IsQuiet (onto.faults written) (onto.faults written_now) → HasFewer set.byte_limit (from.rest read) → (status_of_asked by ≡ ended.Done) ⊎ (status_of_asked by ≡ ended.FileRefused)
  asked_by set read read_now written written_now kept.Refused asks quiet_read quiet_written few = inr refl
  asked_by set read read_now written written_now (kept.Ended by) (inl first) quiet_read quiet_written few = absurd (not_rose (from.faults read) (from.faults read_now) quiet_read first.rose)
  asked_by set read read_now written written_now (kept.Ended by) (inr (answered, cause)) quiet_read quiet_written few =
      inl (done_by reply_line (AnswersLines answered.snapshot set) set.byte_limit answered.behind (from.rest read_now) (onto.written written) (onto.written written_now) (from.faults read) (from.faults read_now) (onto.faults written) (onto.faults written_now) by answered.serves cause quiet_read quiet_written
      (fewer_behind set.byte_limit (from.rest read) answered.behind answered.file answered.taken few))

  pub asks_complete : AsksComplete L from onto
  asks_complete set read read_now written written_now status is quiet_read quiet_written few other =
      let asked = is other in
      ⊎_elim (λ zero. inl (asked.status_is ∙ zero)) (λ eight. inr (asked.status_is ∙ eight)) (asked_by set read read_now written written_now asked.by asked.asks quiet_read quiet_written few)

  exported_by : (set : Settings) (project : List ℕ) (read read_now : S) (written written_now : K) (by : Exported) → Exports L from onto set project read read_now written written_now by → IsQuiet (from.faults read) (from.faults read_now) → IsQuiet (onto.faults written) (onto.faults written_now) → HasFewer set.byte_limit (from.rest read) → (status_of_exported by ≡ ended.Done) ⊎ ((status_of_exported by ≡ ended.LineRefused) ⊎ (status_of_exported by ≡ ended.TooLarge))
  exported_by set project read read_now written written_now exported.Refused exports quiet_read quiet_written few = inr (inl refl)
  exported_by set project read read_now written written_now exported.TooLarge exports quiet_read quiet_written few = inr (inr refl)
  exported_by set project read read_now written written_now (exported.Ended end.Finished) exports quiet_read quiet_written few = inl refl
  exported_by set project read read_now written written_now (exported.Ended end.ReadFault) exports quiet_read quiet_written few = absurd (not_rose (from.faults read) (from.faults read_now) quiet_read exports.1)
  exported_by set project read read_now written written_now (exported.Ended end.WriteFault) exports quiet_read quiet_written few = absurd (not_rose (onto.faults written) (onto.faults written_now) quiet_written exports.writes.4)
  exported_by set project read read_now written written_now (exported.Ended end.Spent) exports quiet_read quiet_written few =
      let most = exports.0.1 in
      absurd (not_spent set.byte_limit (from.rest read) (from.rest read_now) most.0.got most.0.bytes most.1 few)

  pub exports_complete : ExportsComplete L from onto
  exports_complete asked read read_now written written_now status is quiet_read quiet_written few other =
      let done = is other in
      ⊎_elim (λ zero. inl (done.status_is ∙ zero)) (λ others. inr (⊎_elim (λ seven. inl (done.status_is ∙ seven)) (λ nine. inr (done.status_is ∙ nine)) others))
      (exported_by asked.settings asked.project read read_now written written_now done.by done.exports quiet_read quiet_written few)
