-- What a call asks of the history that its pass has seen still holds of a later one, whatever others did meanwhile.
use Rattle.std.proofs.Common.{◌≡◌, ℕ, ◌≤◌, List, [], None, sym, ◌∙◌, subst, arith}
use Rattle.std.specs.Prelude.{IsSome}
use Rattle.cq_base.specs.declared.settings.Settings.{Settings}
use Rattle.cq_history.specs.declared.event.Event.{Event}
use Rattle.cq_history.specs.State.{slot_of, state, ready, view_of, IsAccepted}
use Rattle.cq_history.specs.Lawful.{Lawful}
use Rattle.cq_history.proofs.Doing as doing
use Rattle.cq_hub.specs.Hubs.{Grows}
use Rattle.cq_hub.proofs.Growing.{view_grows, rises}

module _ (callers : ℕ) (alone : Type 0) (May : Event → Type 0) (c : ℕ) (h later : List Event) (grows : Grows alone May c h later []) where
  -- of job and finish: the change is accepted, and is what it was
  pub accepted_stays : (r : ℕ) → IsAccepted (state callers h) r → IsAccepted (state callers later) r × ((slot_of (state callers later) r).change ≡ (slot_of (state callers h) r).change)
  accepted_stays r is =
      subst (λ g. IsAccepted (state callers g) r × ((slot_of (state callers g) r).change ≡ (slot_of (state callers h) r).change)) (sym grows.after_is) (doing.accepted_stays callers h grows.more r is)

  -- of advance: the changes are done
  pub ready_stays : (set : Settings) (to : ℕ) → Lawful set callers later → to ≤ ready (state callers h) → to ≤ ready (state callers later)
  ready_stays set to law le = let up = (rises callers alone May c h later [] grows set law).0 in omega (arith, le, up)

  -- of open_view and close_view: the caller's view
  pub closed_stays : view_of (state callers h) c ≡ None → view_of (state callers later) c ≡ None
  closed_stays is = view_grows callers alone May c h later [] grows tt ∙ is

  pub viewing_stays : IsSome (view_of (state callers h) c) → IsSome (view_of (state callers later) c)
  viewing_stays is = subst IsSome (sym (view_grows callers alone May c h later [] grows tt)) is
