-- The rows of a change and of the state, from what the hub answers.
use Rattle.std.proofs.Common.{◌≡◌, ℕ, List, [], ◌∷◌, ◌++◌, refl, ap, inl, inr}
use Rattle.cq_base.specs.declared.settings.Settings.{Settings}
use Rattle.cq_base.specs.declared.change.Change.{Change}
use Rattle.cq_board.specs.Answers.{asked_of}
use Rattle.cq_board.specs.declared.answers.Asked.{Asked}
use Rattle.cq_board.specs.declared.answers.Refused.{Refused}
use Rattle.cq_board.specs.declared.answers.Refused.TheVariants as refused
use Rattle.cq_history.specs.declared.event.Event.{Event}
use Rattle.cq_history.specs.declared.event.Event.TheVariants.{Accept, Ask}
use Rattle.cq_history.specs.State.{state}
use Rattle.cq_reply.specs.declared.reply.Reply.TheVariants as reply
use Rattle.cq_hub.specs.Says.{IsAcceptedAs, IsRefusedFor}
use Rattle.cq_answer.specs.Refusals.{cause_told}
use Rattle.cq_talk.specs.Talk.{IsChangedBy, Tells, Waits}

module _ (set : Settings) (callers : ℕ) (alone : Type 0) (c : ℕ) (h mid : List Event) (waits : Waits alone c h mid) where
  pub accepted_row : (by : ℕ) (change : Change) (number : ℕ) → IsAcceptedAs set callers change number mid → IsChangedBy set callers alone c by h change (reply.Change number) (mid ++ Accept by change ∷ [])
  accepted_row by change number is = inl (record { mid = mid; waits = waits; no_cause = is.0; accepts = refl; reply_is = ap reply.Change is.1 })

  pub refused_row : (by : ℕ) (change : Change) (cause : Refused) → (cause ≡ refused.Memory → ⊥) → IsRefusedFor set callers change cause mid → IsChangedBy set callers alone c by h change (cause_told cause) mid
  refused_row by change cause no_memory (inl memory) = absurd (no_memory memory)
  refused_row by change cause no_memory (inr is) = inr (record { waits = waits; cause = cause; cause_is = is; reply_is = refl })

  pub told_row : (asked : Asked) → asked ≡ asked_of (state callers mid) → Tells set callers alone c h (reply.State asked.accepted asked.done asked.published) (mid ++ Ask c ∷ [])
  told_row asked is = record {
    asks = record { mid = mid; waits = waits; asks = refl };
    reply_is = ap (λ (a : Asked). reply.State a.accepted a.done a.published) is;
  }
