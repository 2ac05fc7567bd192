-- What a session may not come to: an answer for which no shard was asked, a change that is told and not accepted or accepted twice, a second
-- line of a stranger, and an end without its cause.
use Rattle.std.specs.Prelude.{◌≡◌, ℕ, Bool, true, false, List, [], ◌∷◌, ◌++◌, length, Some, Ok, Err}
use Rattle.std.proofs.Common.{arith, ap, refl, sym, ◌∙◌, subst, inl, inr, length-append}
use Rattle.cq_definition_cases.proofs.Different.{is_false, is_true}
use Rattle.cq_definition_cases.proofs.Talks.{own_grown}
use Rattle.cq_base.specs.declared.change.Change.{Change}
use Rattle.cq_base.specs.declared.settings.Settings.{Settings}
use Rattle.cq_base.specs.declared.refusal.Refusal.TheVariants as refusal
use Rattle.cq_answer.specs.Questions.{AreAsked}
use Rattle.cq_answer.specs.Refusals.{cause_told}
use Rattle.cq_board.specs.declared.answers.Refused.{Refused}
use Rattle.cq_board.specs.declared.answers.Refused.TheVariants as refused
use Rattle.cq_history.specs.declared.event.Event.{Event}
use Rattle.cq_history.specs.declared.event.Event.TheVariants as event
use Rattle.cq_history.specs.State.{accepted, own}
use Rattle.cq_history.proofs.Prefixes.{own-append}
use Rattle.cq_hub.specs.Hubs.{Never}
use Rattle.cq_io.specs.Causes.{HasCause, Rose}
use Rattle.cq_lines.specs.Serving.{HasEndCause}
use Rattle.cq_lines.specs.declared.ending.End.TheVariants as end
use Rattle.cq_reply.specs.declared.reply.Reply.{Reply}
use Rattle.cq_reply.specs.declared.reply.Reply.TheVariants as reply
use Rattle.cq_request.specs.declared.request.Query.{Query}
use Rattle.cq_request.specs.declared.request.Request.TheVariants as request
use Rattle.cq_session.specs.Clients.{IsObject}
use Rattle.cq_session.specs.Costs.{AreViewings, Costs, Counts, Spends, Viewing, answered_in, counted, shown_in}
use Rattle.cq_session.specs.Turn.{StrictTalkBy}
use Rattle.cq_talk.specs.Said.{Said, Read, said}
use Rattle.cq_talk.specs.Talk.{IsChangedBy}

-- ---- a query whose files have a key: a session that makes its buckets of the listing asks for none

module _ (set : Settings) (version : ℕ) (q : Query) (key : ℕ) (keys : List ℕ) (reads reads_now : ℕ) where
  asks_once : (changes : List Change) → AreAsked set changes version q (key ∷ keys) → Costs set changes (answered_in q (Some version)) (counted reads reads_now 0 0) → ⊥
  asks_once changes asked costs = let more = costs.asked (λ v. key ∷ keys) (asked, tt) in omega (arith, more)

  pub an_answer_asks_for_each_of_its_keys :
      (c : ℕ) (h after : List Event) (r : Reply) → shown_in r ≡ Some version → AreAsked set (accepted after) version q (key ∷ keys)
      → Spends (AreViewings (Read (Ok (request.Query q))) r) set c h (counted reads reads_now 0 0) after → ⊥
  an_answer_asks_for_each_of_its_keys c h after r shown asked spends = of_viewings spends.are
    where
      of_viewings : AreViewings (Read (Ok (request.Query q))) r spends.viewings → ⊥
      of_viewings (inl are) =
          asks_once (accepted after) asked (subst (λ (vs : List Viewing). Costs set (accepted after) vs (counted reads reads_now 0 0)) (are ∙ ap (answered_in q) shown) spends.costs)
      of_viewings (inr refused) = let other = sym shown ∙ ap shown_in refused.0 in grind (arith, other)

-- ---- a change, and the caller with the number `by` accepts

abbrev is_number : Reply → Bool
is_number (reply.Change n) = true
is_number _ = false

no_cause_is_number : (cause : Refused) → is_number (cause_told cause) ≡ false
no_cause_is_number refused.Absent = refl
no_cause_is_number refused.FullChanges = refl
no_cause_is_number refused.FullText = refl
no_cause_is_number refused.Memory = refl

pub a_change_that_is_told_is_accepted :
    (set : Settings) (callers : ℕ) (alone : Type 0) (c by number : ℕ) (change : Change) → IsChangedBy set callers alone c by [] change (reply.Change number) [] → ⊥
a_change_that_is_told_is_accepted set callers alone c by number change (inl accepts) =
    let one : 0 ≡ length (accepts.mid ++ event.Accept by change ∷ []) = ap (λ (es : List Event). length es) accepts.accepts in omega (arith, one, length-append accepts.mid (event.Accept by change ∷ []))
a_change_that_is_told_is_accepted set callers alone c by number change (inr refuses) = is_true (ap is_number refuses.reply_is ∙ no_cause_is_number refuses.cause)

pub a_change_is_accepted_once :
    (set : Settings) (callers : ℕ) (alone : Type 0) (number : ℕ) (change : Change)
    → IsChangedBy set callers alone 0 0 [] change (reply.Change number) (event.Accept 0 change ∷ event.Accept 0 change ∷ []) → ⊥
a_change_is_accepted_once set callers alone number change (inl accepts) =
    let one : 2 ≡ 1 =
    ap (λ (es : List Event). length (own 0 es)) accepts.accepts
    ∙ (ap (λ (es : List Event). length es) (own-append 0 accepts.mid (event.Accept 0 change ∷ []))
    ∙ ap (λ (es : List Event). length (es ++ event.Accept 0 change ∷ [])) (own_grown alone Never [] accepts.mid [] accepts.waits)) in omega (arith, one)
a_change_is_accepted_once set callers alone number change (inr refuses) = is_true (ap is_number refuses.reply_is ∙ no_cause_is_number refuses.cause)

-- ---- a session with a log, whose first line is no JSON object

pub a_stranger_has_no_second_line :
    (set : Settings) (callers : ℕ) (alone : Type 0) (c by : ℕ) (h after : List Event) (n : Counts) (line next : List ℕ) (lines : List (List ℕ)) (replies : List Reply)
    → said set.chunk line ≡ Read (Err refusal.Json) → StrictTalkBy true set callers alone c by h n after (line ∷ next ∷ lines) replies → ⊥
a_stranger_has_no_second_line set callers alone c by h after n line next lines replies says talk = is_false (subst (λ (s : Said). IsObject s) says (talk.of_client refl))

-- ---- ends

pub a_source_that_failed_is_not_at_its_end : HasEndCause 0 1 0 0 end.Finished → ⊥
a_source_that_failed_is_not_at_its_end h = let same = h.0 in omega (arith, same)

pub a_sink_that_failed_took_not_all : HasEndCause 0 0 0 1 end.Finished → ⊥
a_sink_that_failed_took_not_all h = let same = h.1 in omega (arith, same)

pub a_read_fault_is_told_only_where_one_rose : HasEndCause 0 0 0 0 end.ReadFault → ⊥
a_read_fault_is_told_only_where_one_rose h = rose h.0
  where
    rose : Rose 0 0 → ⊥
    rose (inl more) = omega (arith, more)
    rose (inr last) = omega (arith, last)

pub a_line_that_was_not_sent_is_not_told_as_sent : HasCause {T = ℕ} {E = ℕ} 0 1 (Ok 0) → ⊥
a_line_that_was_not_sent_is_not_told_as_sent h = let same = h.kept in omega (arith, same)
