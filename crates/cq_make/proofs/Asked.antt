-- A question that may finish works, put to a hub that is alone: the reply is by all changes.
use Rattle.std.proofs.Common.{◌≡◌, ℕ, ◌≤◌, max, true, false, List, length, Some, ap, ◌∙◌, subst, inl, inr, arith}
use Rattle.std.proofs.Math.Nat.{le-max_right}
use Rattle.cq_answer.specs.Reply.{IsReply}
use Rattle.cq_base.specs.declared.settings.Settings.{Settings}
use Rattle.cq_history.specs.State.{state, accepted}
use Rattle.cq_history.specs.declared.event.Event.{Event}
use Rattle.cq_history.proofs.Doing.{slots_number}
use Rattle.cq_reply.specs.declared.reply.Reply.{Reply}
use Rattle.cq_request.specs.declared.request.Kind.{Kind}
use Rattle.cq_request.specs.declared.request.Query.{Query}
use Rattle.cq_talk.specs.Talk.{IsAnswered, IsShown}
use Rattle.cq_talk.proofs.AloneRows.{alone_same}
use Rattle.cq_talk.proofs.Served.{served_accept_none, served_grows}
use Rattle.cq_talk.proofs.Unmade.{none_accepted}
use Rattle.cq_make.specs.Generator.{puts_to}
use Rattle.cq_make.specs.Summary.{question, IsAnsweredByAll}
use Rattle.cq_make.proofs.Puts.{puts_many}

shown_all : (set : Settings) (c : ℕ) (h : List Event) (k : Kind) (reply : Reply) (later : List Event) → IsShown set 1 (Unit {0}) c 0 h (question k) reply later → IsAnsweredByAll set k h reply later
shown_all set c h k reply later is =
    let served = is.served in
    let mid = served.asks.mid in
    let all : accepted later ≡ accepted h = none_accepted c h later _ (served_grows set 1 (Unit {0}) c 0 (question k) h later (Some is.version) served) (served_accept_none c served.finished (Some is.version)) in
    let many : length (state 1 mid).slots ≡ length (accepted h) = slots_number 1 mid ∙ ap (λ g. length (accepted g)) (alone_same c h mid served.asks.waits) in
    let recent : max 0 (length (state 1 mid).slots) ≤ is.version = served.recent in
    let above : length (state 1 mid).slots ≤ max 0 (length (state 1 mid).slots) = le-max_right 0 (length (state 1 mid).slots) in
    let long : length (accepted later) ≡ length (accepted h) = ap length all in
    let within = is.within in
    let version : is.version ≡ length (accepted h) = omega (arith, recent, above, within, long, many) in
    record {
      same = all;
      is = subst (λ v. IsReply set (accepted h) v (question k) reply) version (subst (λ changes. IsReply set changes is.version (question k) reply) all is.shows);
    }

pub answered_all : (set : Settings) (c : ℕ) (h : List Event) (k : Kind) (reply : Reply) (later : List Event) → IsAnswered set 1 (Unit {0}) c 0 h (question k) reply later → IsAnsweredByAll set k h reply later
answered_all set c h k reply later (inl is) = let above = is.above in absurd (omega (arith, above))
answered_all set c h k reply later (inr (inl is)) = let none : true ≡ false = is.no_work in absurd (cc)
answered_all set c h k reply later (inr (inr is)) = shown_all set c h k reply later is

pub answered_by : (hub_set set : Settings) (c : ℕ) (h : List Event) (q : Query) (k : Kind) (reply : Reply) (later : List Event) → hub_set ≡ set → q ≡ question k
    → IsAnswered hub_set 1 (Unit {0}) c 0 h q reply later → IsAnsweredByAll set k h reply later
answered_by hub_set set c h q k reply later same asks is =
    answered_all set c h k reply later (subst (λ (s : Settings). IsAnswered s 1 (Unit {0}) c 0 h (question k) reply later) same (subst (λ (r : Query). IsAnswered hub_set 1 (Unit {0}) c 0 h r reply later) asks is))

-- so it is the reply by the puts, where these are all changes
pub reply_by_puts : (set : Settings) (number files : ℕ) (k : Kind) (h : List Event) (reply : Reply) (later : List Event) → IsAnsweredByAll set k h reply later → accepted h ≡ puts_to number files
    → IsReply set (puts_to number files) files (question k) reply
reply_by_puts set number files k h reply later is put =
    subst (λ n. IsReply set (puts_to number files) n (question k) reply) (puts_many number files)
    (subst (λ changes. IsReply set changes (length changes) (question k) reply) put is.is)
