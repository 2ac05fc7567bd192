-- What may not be written for a script: a session's replies.
use Rattle.std.specs.Prelude.{◌≡◌, ℕ, Bool, List, [], ◌∷◌, ◌++◌, flat_map, slice_index, codes, Option, None, Some, Result, Ok, Err}
use Rattle.std.proofs.Common.{arith, ap, refl, sym, ◌∙◌, subst, inl, inr, append-nil}
use Rattle.json.specs.Print.{escape_byte}
use Rattle.serde_json.specs.Written.{compact_text}
use Rattle.cq_answer.specs.Refusals.{cause_told}
use Rattle.cq_answer.specs.Reply.{IsReply, chosen_read, part_read, reply_of}
use Rattle.cq_answer.specs.Rows.{Facts, facts_read}
use Rattle.cq_answer.specs.declared.part.Part.{Part}
use Rattle.cq_base.specs.Refusals.{refusal_code, refusal_count, refusal_name, refusal_word}
use Rattle.cq_base.specs.declared.change.Condition.{Condition}
use Rattle.cq_base.specs.declared.group.Group.{Group}
use Rattle.cq_base.specs.declared.refusal.Refusal.{Refusal}
use Rattle.cq_base.specs.declared.settings.Settings.{Settings}
use Rattle.cq_board.specs.declared.answers.Refused.{Refused}
use Rattle.cq_board.specs.declared.answers.Refused.TheVariants as refused
use Rattle.cq_drive.specs.Outcomes.{line_of as outcome_line}
use Rattle.cq_drive.specs.Reading.{step_read}
use Rattle.cq_drive.specs.Script.{IsOfView, IsRead, IsScript, LineComesTo, SaidComesTo, StepComesTo, StepsWhere, now}
use Rattle.cq_drive.specs.declared.outcome.ScriptOutcome.{ScriptOutcome}
use Rattle.cq_drive.specs.declared.outcome.ScriptOutcome.TheVariants as outcome
use Rattle.cq_drive.specs.declared.step.ScriptStep.{ScriptStep}
use Rattle.cq_drive.specs.declared.step.ScriptStep.TheVariants as step
use Rattle.cq_history.specs.Core.{Core, Step, first_core}
use Rattle.cq_history.specs.Core.Step.{Adds, Applies}
use Rattle.cq_history.specs.Files.{conditions_at}
use Rattle.cq_history.specs.State.{accepted, first_free}
use Rattle.cq_history.specs.declared.event.Event.TheVariants as event
use Rattle.cq_lines.specs.Pieces.{all_lines, split}
use Rattle.cq_lines.specs.Serving.{Serves}
use Rattle.cq_lines.specs.declared.ending.End.{End}
use Rattle.cq_lines.specs.declared.ending.End.TheVariants as end
use Rattle.cq_measures.specs.declared.outcome.Verdict.TheVariants as verdict
use Rattle.cq_program.specs.Statuses.{status_of}
use Rattle.cq_program.specs.Top.{IsDrive}
use Rattle.cq_program.specs.declared.status.Status.TheVariants as ended
use Rattle.cq_reply.specs.Written.{line_of as reply_line, refusal_data, reply_data}
use Rattle.cq_reply.specs.declared.reply.Reply.{Reply}
use Rattle.cq_reply.specs.declared.reply.Reply.TheVariants as reply
use Rattle.cq_request.specs.declared.request.Kind.{Kind}
use Rattle.cq_request.specs.declared.request.Kind.TheVariants as kinds

-- 1 where the reply is a server's state
abbrev state_in : Reply → ℕ
state_in (reply.State accepted done published) = 1
state_in _ = 0

abbrev state_told : ScriptOutcome → ℕ
state_told (outcome.Reply r) = state_in r
state_told _ = 0

-- ---- no step comes to one

of_cause : (cause : Refused) → state_in (cause_told cause) ≡ 0
of_cause refused.Absent = refl
of_cause refused.FullChanges = refl
of_cause refused.FullText = refl
of_cause refused.Memory = refl

module _ (facts : Facts) (conditions : List Condition) (version : ℕ) (p : Part) (is_chosen : ℕ → Bool) (groups : List Group) where
  of_kind : (k : Kind) → state_in (reply_of facts conditions version k p is_chosen groups) ≡ 0
  of_kind kinds.Files = refl
  of_kind kinds.Groups = refl
  of_kind kinds.Measures = refl
  of_kind kinds.Verdict = refl
  of_kind kinds.Functions = refl

of_where : (May : Type 0) (k later : Core) (s : Step) (told other o : ScriptOutcome) → state_told told ≡ 0 → state_told other ≡ 0 → StepsWhere May k s told other o later → state_told o ≡ 0
of_where May k later s told other o first second (inl taken) = ap state_told taken.1.0 ∙ first
of_where May k later s told other o first second (inr stays) = ap state_told stays.1.0 ∙ second

of_view : (k : Core) (by : ℕ) (Of : ℕ → ScriptOutcome → Type 0) (o : ScriptOutcome) → ((version : ℕ) → Of version o → state_told o ≡ 0) → IsOfView k by Of o → state_told o ≡ 0
of_view k by Of o each (inl (version, viewed, is)) = each version is
of_view k by Of o each (inr (none, told)) = ap state_told told

module _ (set : Settings) (k later : Core) where
  of_step : (s : ScriptStep) (o : ScriptOutcome) → StepComesTo set k s o later → state_told o ≡ 0
  of_step (step.Accept by change) o (inl taken) = ap state_told taken.1.0
  of_step (step.Accept by change) o (inr (cause, is, stays)) = ap state_told stays.0 ∙ of_cause cause
  of_step (step.Ask by) o taken = ap state_told taken.0
  of_step (step.Took by) o comes = of_where _ k later (Adds (event.Took by (first_free (now k)))) _ _ o refl refl comes
  of_step (step.Back by change) o comes = of_where _ k later (Adds (event.Back by change)) _ _ o refl refl comes
  of_step (step.Done by change) o comes = of_where _ k later (Adds (event.Done by change)) _ _ o refl refl comes
  of_step (step.Apply shard) o comes = of_where _ k later (Applies shard) _ _ o refl refl comes
  of_step (step.Publish version) o comes = of_where _ k later (Adds (event.Publish version)) _ _ o refl refl comes
  of_step (step.Open by) o comes = of_where _ k later (Adds (event.Open by (now k).published)) _ _ o refl refl comes
  of_step (step.Read by shard key) o (is, stays) = of_view k by (IsRead set k shard key) o (λ version read. ap state_told read.2) is
  of_step (step.Reply by query) o (is, stays) =
      of_view k by (λ version p. (r : Reply) × IsReply set (accepted k.history) version query r × (p ≡ outcome.Reply r)) o (λ version told. ap state_told told.2 ∙ (ap state_in told.1.reply_is ∙ of_kind (facts_read told.1.readings) (conditions_at (accepted k.history) version query.project) version (part_read told.1.readings query) (chosen_read told.1.readings query) told.1.groups query.kind)) is
  of_step (step.Shut by) o comes = of_where _ k later (Adds (event.Shut by)) _ _ o refl refl comes
  of_step (step.Floor version) o comes = of_where _ k later (Adds (event.Floor version)) _ _ o refl refl comes
  of_step (step.Sweep shard) o taken = ap state_told taken.0

  of_said : (said : Result ScriptStep Refusal) (o : ScriptOutcome) → SaidComesTo set k said o later → state_told o ≡ 0
  of_said (Ok s) o comes = of_step s o comes
  of_said (Err why) o stays = ap state_told stays.0

  of_line : (line : List ℕ) (o : ScriptOutcome) → LineComesTo set k line o later → state_told o ≡ 0
  of_line line o (inl long) = ap state_told long.1.0
  of_line line o (inr (short, inl memory)) = ap state_told memory.0
  of_line line o (inr (short, inr comes)) = of_said (step_read set line) o comes

-- ---- and only a state's line begins with its first key

refused_begins : (code : ℕ) (word : List ℕ) (name : Option (List ℕ)) (n : Option ℕ) → slice_index (compact_text (refusal_data code word name n) ++ 10 ∷ []) 2 ≡ 97 → ⊥
unfolding escape_byte
refused_begins code word (Some name) n e = let other : 99 ≡ 97 = e in omega (arith, other)
refused_begins code word None (Some n) e = let other : 99 ≡ 97 = e in omega (arith, other)
refused_begins code word None None e = let other : 99 ≡ 97 = e in omega (arith, other)

reply_begins : (r : Reply) → slice_index (compact_text (reply_data r) ++ 10 ∷ []) 2 ≡ 97 → state_in r ≡ 1
unfolding escape_byte
reply_begins (reply.Change n) e = let other : 99 ≡ 97 = e in absurd (omega (arith, other))
reply_begins (reply.Files files version) e = let other : 102 ≡ 97 = e in absurd (omega (arith, other))
reply_begins (reply.Groups groups version) e = let other : 103 ≡ 97 = e in absurd (omega (arith, other))
reply_begins (reply.Measures measures version) e = let other : 109 ≡ 97 = e in absurd (omega (arith, other))
reply_begins (reply.Verdict verdict.Ok version) e = let other : 102 ≡ 97 = e in absurd (omega (arith, other))
reply_begins (reply.Verdict (verdict.Error failed) version) e = let other : 102 ≡ 97 = e in absurd (omega (arith, other))
reply_begins (reply.Functions functions version worst) e = let other : 102 ≡ 97 = e in absurd (omega (arith, other))
reply_begins (reply.State accepted done published) e = refl
reply_begins (reply.Refused why) e = absurd (refused_begins (refusal_code why) (refusal_word why) (refusal_name why) (refusal_count why) e)
reply_begins (reply.Pending n) e = let other : 99 ≡ 97 = e in absurd (omega (arith, other))
reply_begins reply.Long e = let other : 99 ≡ 97 = e in absurd (omega (arith, other))
reply_begins reply.Memory e = let other : 99 ≡ 97 = e in absurd (omega (arith, other))

begins : (o : ScriptOutcome) → slice_index (outcome_line o) 2 ≡ 97 → state_told o ≡ 1
unfolding escape_byte
begins outcome.Done e = let other : 111 ≡ 97 = e in absurd (omega (arith, other))
begins (outcome.Value n) e = let other : 111 ≡ 97 = e in absurd (omega (arith, other))
begins outcome.NoJob e = let other : 111 ≡ 97 = e in absurd (omega (arith, other))
begins (outcome.Read entries) e = let other : 111 ≡ 97 = e in absurd (omega (arith, other))
begins outcome.No e = let other : 111 ≡ 97 = e in absurd (omega (arith, other))
begins (outcome.Reply r) e = reply_begins r e

-- ---- a source of one line, by which a client asks for the state

abbrev asking : List ℕ
asking = codes "{\"op\":\"state\"}"

state_begins : slice_index (reply_line (reply.State 0 0 0)) 2 ≡ 97
unfolding escape_byte
state_begins = refl

of_script : (set : Settings) (outcomes : List ScriptOutcome) → IsScript set (asking ∷ []) outcomes → reply_line (reply.State 0 0 0) ≡ flat_map outcome_line outcomes → ⊥
of_script set [] (later, none) is = none
of_script set (o ∷ []) (later, (mid, comes, same)) is =
    let line : reply_line (reply.State 0 0 0) ≡ outcome_line o = is ∙ append-nil (outcome_line o) in
    let one = begins o (sym (ap (λ (bs : List ℕ). slice_index bs 2) line) ∙ state_begins) in
    let zero = of_line set (first_core set.shards) mid asking o comes in omega (arith, one, zero)
of_script set (o ∷ p ∷ outcomes) (later, (mid, comes, more)) is = more

of_end : (set : Settings) (by : End) → ended.Done ≡ status_of by → Serves outcome_line (IsScript set) set.byte_limit (Some (asking ++ 10 ∷ [])) (Some []) (Some []) (Some (reply_line (reply.State 0 0 0))) by → ⊥
unfolding split
of_end set end.Finished status serves =
    let got : asking ++ 10 ∷ [] ≡ serves.got = serves.bytes ∙ append-nil serves.got in
    let replied = serves.served.2 in
    let script : IsScript set (asking ∷ []) replied.replies = subst (λ (bs : List ℕ). IsScript set (all_lines bs) replied.replies) (sym got) replied.talk in of_script set replied.replies script replied.written
of_end set end.ReadFault status serves = grind (arith, status)
of_end set end.WriteFault status serves = grind (arith, status)
of_end set end.Spent status serves = grind (arith, status)

pub a_script_is_not_answered_as_a_clients_lines : (set : Settings) → IsDrive set (Some (asking ++ 10 ∷ [])) (Some []) (Some []) (Some (reply_line (reply.State 0 0 0))) 0 0 0 0 ended.Done → ⊥
a_script_is_not_answered_as_a_clients_lines set driven = of_end set driven.by driven.status_is driven.serves
