-- Whom a session has met.
use Rattle.std.proofs.Common.{◌≡◌, ℕ, Bool, true, false, List, [], ◌∷◌, ◌++◌, Some, None, Result, Ok, Err, refl, sym, ap, ◌∙◌, subst, true≢false, inl, inr}
use Rattle.cq_base.specs.declared.settings.Settings.{Settings}
use Rattle.cq_history.specs.declared.event.Event.{Event}
use Rattle.cq_reply.specs.declared.reply.Reply.{Reply}
use Rattle.cq_reply.specs.declared.reply.Reply.TheVariants as reply
use Rattle.cq_base.specs.declared.refusal.Refusal.{Refusal}
use Rattle.cq_request.specs.declared.request.Request.{Request}
use Rattle.cq_talk.specs.Said.{said, Read}
use Rattle.cq_talk.specs.Talk.{AnswersBy}
use Rattle.cq_session.specs.Clients.{AreOfClient, HasMet, IsGreeted, IsObject, MayGoOn, is_known, is_nobody, met_at_line, stop_after}
use Rattle.cq_session.specs.declared.met.Met.{Met}
use Rattle.cq_session.specs.declared.met.Met.TheVariants as met
use Rattle.cq_session.specs.declared.stop.Stop.{Stop}
use Rattle.cq_session.specs.declared.stop.Stop.TheVariants as stop

module _ (chunk : ℕ) where
  -- a line more after a first one that is a JSON object
  still_greeted : (lines : List (List ℕ)) (line : List ℕ) → IsGreeted chunk lines → IsGreeted chunk (lines ++ line ∷ [])
  still_greeted [] line is = absurd is
  still_greeted (first ∷ lines) line is = is

  -- a line more, which is one if it is the first
  pub greeted_more : (m : Met) (lines : List (List ℕ)) (line : List ℕ) → HasMet chunk m lines → MayGoOn m → (is_nobody m ≡ true → IsObject (said chunk line)) → IsGreeted chunk (lines ++ line ∷ [])
  greeted_more met.Nobody lines line is may first = subst (λ (ls : List (List ℕ)). IsGreeted chunk (ls ++ line ∷ [])) (sym is) (first refl)
  greeted_more met.Stranger lines line is may first = absurd may
  greeted_more met.Client lines line is may first = still_greeted lines line is

  -- a line more, of which that isn't known
  pub met_more : (m : Met) (lines : List (List ℕ)) (line : List ℕ) → HasMet chunk m lines → MayGoOn m → HasMet chunk (met_at_line m) (lines ++ line ∷ [])
  met_more met.Nobody lines line is may = (line, ap (λ (ls : List (List ℕ)). ls ++ line ∷ []) is)
  met_more met.Stranger lines line is may = absurd may
  met_more met.Client lines line is may = still_greeted lines line is

  greeted_client : (lines : List (List ℕ)) → IsGreeted chunk lines → AreOfClient chunk lines
  greeted_client [] is = absurd is
  greeted_client (line ∷ []) is = tt
  greeted_client (line ∷ (next ∷ lines)) is = is

  pub met_client : (m : Met) (lines : List (List ℕ)) → HasMet chunk m lines → AreOfClient chunk lines
  met_client met.Nobody lines is = subst (AreOfClient chunk) (sym is) tt
  met_client met.Stranger lines is = subst (AreOfClient chunk) (sym is.1) tt
  met_client met.Client lines is = greeted_client lines is

  -- before the first line there is none
  pub none_before : (m : Met) (lines : List (List ℕ)) → is_nobody m ≡ true → HasMet chunk m lines → lines ≡ []
  none_before met.Nobody lines first is = is
  none_before met.Stranger lines first is = absurd (true≢false (sym first))
  none_before met.Client lines first is = absurd (true≢false (sym first))

-- ---- a reply, and the line that it answers

unknown_memory : (r : Reply) → r ≡ reply.Memory → is_known r ≡ true → ⊥
unknown_memory r is known = true≢false (sym known ∙ ap is_known is)

refused_known : (why : Refusal) (r : Reply) → r ≡ reply.Refused why → is_known r ≡ true → IsObject (Read (Err why))
refused_known why r is known = sym (ap is_known is) ∙ known

module _ (set : Settings) (callers : ℕ) (alone : Type 0) (c by seen : ℕ) (h after : List Event) where
  -- a reply that shows that the line is a JSON object
  pub known_object : (says : Result Request Refusal) (r : Reply) → AnswersBy set callers alone c by seen h (Read says) r after → is_known r ≡ true → IsObject (Read says)
  known_object (Ok request) r is known = tt
  known_object (Err why) r (inl is) known = absurd (unknown_memory r is.0 known)
  known_object (Err why) r (inr is) known = refused_known why r is.0 known

-- ---- whether a session stops

-- after a line that is not known to be a JSON object it goes on only if that is not the first one
pub goes_on : (strict first : Bool) → None ≡ stop_after strict first false → strict ≡ true → first ≡ true → ⊥
goes_on true true is strictly here = absurd (cc)
goes_on true false is strictly here = true≢false (sym here)
goes_on false first is strictly here = true≢false (sym strictly)

-- and stops only there
pub record Stops (strict first : Bool) (why : Stop) : Type 0 where
  pub stranger : why ≡ stop.Stranger
  pub strictly : strict ≡ true
  pub here : first ≡ true

pub stops_there : (strict first : Bool) (why : Stop) → Some why ≡ stop_after strict first false → Stops strict first why
stops_there true true stop.Stranger is = record { stranger = refl; strictly = refl; here = refl }
stops_there true true stop.Unkept is = absurd (cc)
stops_there true false why is = absurd (cc)
stops_there false first why is = absurd (cc)
