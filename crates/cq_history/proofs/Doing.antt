-- What is done, what is ready, and what stays of an accepted change.
use Rattle.std.proofs.Common.{◌≡◌, ◌⊎◌, ℕ, ◌+◌, ◌-◌, ◌<◌, ◌≤◌, Bool, true, false, not, ◌||◌, List, ◌++◌, length, get_or, set, refl, sym, ap, ◌∙◌, subst, inl, inr, ⊎_elim, arith, length-append}
use Rattle.std.specs.Prelude.{◌↔◌}
use Rattle.std.proofs.lemmas.Bool.{cases_lt}
use Rattle.std.proofs.lemmas.List.{get_or-map, get_or_append_left, length-map}
use Rattle.std.proofs.lemmas.List.Elements.{Contains-append_left}
use Rattle.std.proofs.lemmas.List.Sums.{prefix_len_passes, prefix_len_stops, prefix_len-le-length}
use Rattle.cq_base.specs.declared.settings.Settings.{Settings}
use Rattle.cq_history.specs.declared.event.Event.{Event}
use Rattle.cq_history.specs.declared.event.Event.TheVariants.{Done}
use Rattle.cq_history.specs.Changes.{is_put}
use Rattle.cq_history.specs.State.{State, Slot, no_slot, state, slot_of, is_done, ready, accepted, IsAccepted, IsDone, AreDoneUpTo}
use Rattle.cq_history.specs.Lasts.{IsDoneIn}
use Rattle.cq_history.specs.Lawful.{Lawful}
use Rattle.cq_history.proofs.States.{Lawful-prefix}
use Rattle.cq_history.proofs.Prefixes.{changes_in-state, accepted-append}
use Rattle.cq_history.proofs.Holders.{finished_is, is_finished}

-- ---- what is accepted

pub slots_number : (callers : ℕ) (h : List Event) → length (state callers h).slots ≡ length (accepted h)
slots_number callers h = sym (length-map (state callers h).slots (λ (s : Slot). s.change)) ∙ ap length (changes_in-state callers h)

change_in : (callers : ℕ) (h : List Event) (r : ℕ) → IsAccepted (state callers h) r → (slot_of (state callers h) r).change ≡ get_or (accepted h) (r - 1) no_slot.change
change_in callers h r is =
    sym (get_or-map (λ (s : Slot). s.change) (state callers h).slots (r - 1) no_slot no_slot.change (omega (arith, is.0, is.1)))
    ∙ ap (λ cs. get_or cs (r - 1) no_slot.change) (changes_in-state callers h)

pub accepted_stays : (callers : ℕ) (h later : List Event) (r : ℕ) → IsAccepted (state callers h) r → IsAccepted (state callers (h ++ later)) r × ((slot_of (state callers (h ++ later)) r).change ≡ (slot_of (state callers h) r).change)
accepted_stays callers h later r is =
    let was = slots_number callers h in
    let now = slots_number callers (h ++ later) in
    let more = ap length (accepted-append h later) ∙ length-append (accepted h) (accepted later) in
    let there : IsAccepted (state callers (h ++ later)) r = (is.0, omega (arith, is.1, was, now, more)) in (
      there,
      change_in callers (h ++ later) r there ∙ ap (λ cs. get_or cs (r - 1) no_slot.change) (accepted-append h later)
          ∙ get_or_append_left (accepted h) (accepted later) no_slot.change (r - 1) (omega (arith, is.0, is.1, was)) ∙ sym (change_in callers h r is),
    )

-- ---- what is done

done_by : (put finished : Bool) → (not put || finished) ≡ true → (put ≡ false) ⊎ (finished ≡ true)
done_by true finished h = inr h
done_by false finished h = inl refl

by_done : (put finished : Bool) → (put ≡ false) ⊎ (finished ≡ true) → (not put || finished) ≡ true
by_done true finished h = ⊎_elim (λ (e : true ≡ false). absurd (cc)) (λ e. e) h
by_done false finished h = refl

pub done_is : (set : Settings) (callers : ℕ) (h : List Event) (r : ℕ) → Lawful set callers h → IsDone (state callers h) r ↔ (IsAccepted (state callers h) r × ((is_put (slot_of (state callers h) r).change ≡ false) ⊎ IsDoneIn r h))
done_is set callers h r law =
    let slot = slot_of (state callers h) r in (
      λ done. (done.0, ⊎_elim (λ e. inl e) (λ e. inr (finished_is set callers h r law done.0.0 e)) (done_by (is_put slot.change) slot.finished done.1)),
      λ is. (is.0, by_done (is_put slot.change) slot.finished (⊎_elim (λ e. inl e) (λ did. inr (is_finished set callers h r law is.0.0 did)) is.1)),
    )

pub done_stays : (set : Settings) (callers : ℕ) (h later : List Event) (r : ℕ) → Lawful set callers (h ++ later) → IsDone (state callers h) r → IsDone (state callers (h ++ later)) r
done_stays set callers h later r law is =
    let was = (done_is set callers h r (Lawful-prefix set callers h later law)).0 is in
    let stays = accepted_stays callers h later r was.0 in
    (done_is set callers (h ++ later) r law).1 (
      stays.0,
      ⊎_elim (λ e. inl (ap is_put stays.1 ∙ e)) (λ did. inr (did.0, Contains-append_left h later (Done did.0 r) did.1)) was.1,
    )

-- ---- what is ready

pub ready_greatest : (s : State) → AreDoneUpTo s (ready s) × ((d : ℕ) → AreDoneUpTo s d → d ≤ ready s)
ready_greatest s = (
  λ r some low. ((some, omega (arith, low, prefix_len-le-length is_done s.slots)), prefix_len_passes is_done s.slots (r - 1) no_slot (omega (arith, some, low))),
  λ d done. ⊎_elim (λ (past : ready s < d). absurd (undone d done past)) (λ (low : d ≤ ready s). low) (cases_lt (ready s) d),
)
  where
    undone : (d : ℕ) → AreDoneUpTo s d → ready s < d → ⊥
    undone d done past =
        let next = done (ready s + 1) (omega arith) (omega (arith, past)) in
        let is : is_done (get_or s.slots (ready s) no_slot) ≡ true = subst (λ n. is_done (get_or s.slots n no_slot) ≡ true) (let e : ready s + 1 - 1 ≡ ready s = omega arith in e) next.1 in
        let no : is_done (get_or s.slots (ready s) no_slot) ≡ false = prefix_len_stops is_done s.slots no_slot (omega (arith, next.0.1)) in
        absurd (cc)
