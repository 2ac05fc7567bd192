-- Where the calls of a hub bring a pass.
use Rattle.std.proofs.Common.{◌≡◌, ℕ, List, [], ◌∷◌, ◌++◌, Some, ap, ◌∙◌, subst, append-nil}
use Rattle.cq_base.specs.declared.change.Change.{Change}
use Rattle.cq_history.specs.declared.event.Event.{Event}
use Rattle.cq_history.specs.declared.event.Event.TheVariants.{Accept}
use Rattle.cq_history.specs.State.{State, maker, view_of}
use Rattle.cq_history.proofs.States.{state_push}
use Rattle.cq_hub.specs.Hubs.{Grows, Calls}
use Rattle.cq_hub.proofs.Growing.{KeepsView, view_grows, grows_event}
use Rattle.cq_talk.specs.Steps.{IsClosed, Leads}

module _ {S P : Type 0} (Stands : S → P → ℕ → List Event → Type 0) (alone : Type 0) (callers c : ℕ) (hub : S) (pass : P) (May : Event → Type 0) (h : List Event) where
  -- a call that adds no event of its own
  pub lead_none : (Says Holds : List Event → Type 0) (call : Calls Stands alone May c hub pass h [] Says) → IsClosed callers c h → (Grows alone May c h call.mid [] → Says call.mid → Holds call.mid) → Leads Stands callers c hub pass Holds
  lead_none Says Holds call closed to = record {
    after = call.mid;
    stands = subst (Stands hub pass c) (append-nil call.mid) call.stands;
    closed = view_grows callers alone May c h call.mid [] call.others tt ∙ closed;
    holds = to call.others call.says;
  }

  -- a call that adds one, which opens no view
  pub lead_event : (e : Event) (Says Holds : List Event → Type 0) (call : Calls Stands alone May c hub pass h (e ∷ []) Says) → maker e ≡ Some c → KeepsView e → IsClosed callers c h → (Grows alone May c h call.mid [] → Says call.mid → Holds (call.mid ++ e ∷ [])) → Leads Stands callers c hub pass Holds
  lead_event e Says Holds call mine keeps closed to = record {
    after = call.mid ++ e ∷ [];
    stands = call.stands;
    closed = view_grows callers alone May c h (call.mid ++ e ∷ []) (e ∷ []) (grows_event alone c May h call.mid e mine call.others) (keeps, tt) ∙ closed;
    holds = to call.others call.says;
  }

  -- a call after which the caller with the number `by` accepted a change, whoever that is
  pub lead_accepted : (by : ℕ) (change : Change) (Says Holds : List Event → Type 0) (call : Calls Stands alone May c hub pass h (Accept by change ∷ []) Says) → IsClosed callers c h → (Grows alone May c h call.mid [] → Says call.mid → Holds (call.mid ++ Accept by change ∷ [])) → Leads Stands callers c hub pass Holds
  lead_accepted by change Says Holds call closed to = record {
    after = call.mid ++ Accept by change ∷ [];
    stands = call.stands;
    closed = ap (λ (s : State). view_of s c) (state_push callers call.mid (Accept by change)) ∙ (view_grows callers alone May c h call.mid [] call.others tt ∙ closed);
    holds = to call.others call.says;
  }

  -- the call added no event of its own, so the pass stands for what it was answered of
  pub stands_mid : (Says : List Event → Type 0) (call : Calls Stands alone May c hub pass h [] Says) → Stands hub pass c call.mid
  stands_mid Says call = subst (Stands hub pass c) (append-nil call.mid) call.stands

pub lead_weaker : {S P : Type 0} (Stands : S → P → ℕ → List Event → Type 0) (callers c : ℕ) (hub : S) (pass : P) (Was Holds : List Event → Type 0) → Leads Stands callers c hub pass Was → ((later : List Event) → Was later → Holds later) → Leads Stands callers c hub pass Holds
lead_weaker Stands callers c hub pass Was Holds led to = record { after = led.after; stands = led.stands; closed = led.closed; holds = to led.after led.holds }
