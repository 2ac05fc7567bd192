-- What a caller's own event leaves after a history.
use Rattle.std.proofs.Common.{◌≡◌, ℕ, zero, suc, ◌+◌, ◌-◌, ◌<◌, true, not, List, [], ◌∷◌, ◌++◌, length, take, get_or, set, fold, Option, Some, None, refl, sym, ap, ◌∙◌, subst, arith, true≢false, length-append}
use Rattle.std.specs.Arc.{arc_value}
use Rattle.std.proofs.lemmas.List.{length-set, length-replicate, get_or_push, get_or-set_same}
use Rattle.cq_base.proofs.Bools.{or-true}
use Rattle.cq_base.specs.declared.lang.Lang.{Lang}
use Rattle.cq_base.specs.declared.change.Change.{Change}
use Rattle.cq_base.specs.declared.change.Change.TheVariants.{Put, Drop, Gate}
use Rattle.cq_history.specs.declared.event.Event.{Event}
use Rattle.cq_history.specs.declared.event.Event.TheVariants.{Accept, Ask, Done, Open, Shut}
use Rattle.cq_history.specs.Changes.{is_put, IsWorkFor}
use Rattle.cq_history.specs.State.{State, Slot, no_slot, new_slot, start, after, state, accepted, changes_in, slot_of, is_done, view_of, maker, IsAccepted, IsDone, IsUndone}
use Rattle.cq_history.proofs.States.{state_push}
use Rattle.cq_history.proofs.Doing.{slots_number}
use Rattle.cq_history.proofs.Openings.{views_after}
use Rattle.cq_board.specs.Listings.{IsListing}
use Rattle.cq_board.specs.declared.listing.View.{View}
use Rattle.cq_hub.specs.Hubs.{Grows}
use Rattle.cq_hub.specs.Views.{IsLatest, IsOpen}
use Rattle.cq_hub.proofs.Growing.{KeepsView, view_grows, grows_event}

set_none : (views : List (Option ℕ)) (c : ℕ) → get_or (set views c None) c None ≡ None
set_none [] c = refl
set_none (v ∷ views) zero = refl
set_none (v ∷ views) (suc c) = set_none views c

many_views : (s : State) (h : List Event) → length (fold after s h).views ≡ length s.views
many_views s [] = refl
many_views s (e ∷ h) = many_views (after s e) h ∙ views_after s e

module _ (callers c : ℕ) (h : List Event) where
  -- the change that was accepted last
  pub accepted_then : (change : Change) → IsAccepted (state callers (h ++ Accept c change ∷ [])) (length (accepted h) + 1) × ((slot_of (state callers (h ++ Accept c change ∷ [])) (length (accepted h) + 1)).change ≡ change)
  accepted_then change =
      let s = state callers h in
      let number = slots_number callers h in
      subst (λ (t : State). IsAccepted t (length (accepted h) + 1) × ((slot_of t (length (accepted h) + 1)).change ≡ change)) (sym (state_push callers h (Accept c change)))
      ((omega arith, omega (arith, number, length-append s.slots (new_slot change ∷ []))), ap (λ (slot : Slot). slot.change) (get_or_push s.slots (new_slot change) no_slot (length (accepted h) + 1 - 1) (omega (arith, number))))

  -- a change is done after its work
  pub done_then : (r : ℕ) → IsUndone (state callers h) r → IsDone (state callers (h ++ Done c r ∷ [])) r
  done_then r is =
      let s = state callers h in
      let slot : Slot = record { change = (slot_of s r).change; finished = true; holder = (slot_of s r).holder } in
      let within : r - 1 < length s.slots = let a = is.0.0 in let b = is.0.1 in omega (arith, a, b) in
      subst (λ t. IsDone t r) (sym (state_push callers h (Done c r))) (
        (is.0.0, let n = length-set s.slots (r - 1) slot in let b = is.0.1 in omega (arith, n, b)),
        ap is_done (get_or-set_same s.slots (r - 1) slot no_slot within) ∙ or-true (not (is_put (slot_of s r).change)),
      )

  -- a question leaves the state as it was
  pub asked_then : state callers (h ++ Ask c ∷ []) ≡ state callers h
  asked_then = state_push callers h (Ask c)

  pub opened_then : (v : ℕ) → c < callers → view_of (state callers (h ++ Open c v ∷ [])) c ≡ Some v
  opened_then v lt =
      let none : Option ℕ = None in
      let many = many_views (start callers) h in
      let all = length-replicate callers none in
      ap (λ s. view_of s c) (state_push callers h (Open c v)) ∙ get_or-set_same (state callers h).views c (Some v) None (omega (arith, many, all, lt))

  pub shut_then : view_of (state callers (h ++ Shut c ∷ [])) c ≡ None
  shut_then = ap (λ s. view_of s c) (state_push callers h (Shut c)) ∙ set_none (state callers h).views c

  -- the view that was opened is open
  pub latest_opened : {W : Type 0} (IsWork : Lang → List ℕ → W → Type 0) (v : View W) → c < callers → IsLatest IsWork (state callers h) v → IsOpen IsWork (state callers (h ++ Open c v.version ∷ [])) c v
  latest_opened IsWork v lt latest = record {
    version = opened_then v.version lt;
    shows = subst (λ s. IsListing IsWork (take v.version (changes_in s)) (arc_value v.listing)) (sym (state_push callers h (Open c v.version))) latest.1;
  }

-- the caller's own event keeps its view
pub view_then : (callers : ℕ) (alone : Type 0) (May : Event → Type 0) (c : ℕ) (h mid : List Event) (e : Event) → Grows alone May c h mid [] → maker e ≡ Some c → KeepsView e → view_of (state callers (mid ++ e ∷ [])) c ≡ view_of (state callers h) c
view_then callers alone May c h mid e others mine keeps = view_grows callers alone May c h (mid ++ e ∷ []) (e ∷ []) (grows_event alone c May h mid e mine others) (keeps, tt)

-- the work of a put, where it is that of every text
pub work_of_put : {W : Type 0} (IsWork : Lang → List ℕ → W → Type 0) (change : Change) (work : W) → is_put change ≡ true → ((lang : Lang) (text : List ℕ) → IsWork lang text work) → IsWorkFor IsWork change work
work_of_put IsWork (Put project path lang text) work put every = every lang text
work_of_put IsWork (Drop project path) work put every = absurd (true≢false (sym put))
work_of_put IsWork (Gate project conditions) work put every = absurd (true≢false (sym put))
