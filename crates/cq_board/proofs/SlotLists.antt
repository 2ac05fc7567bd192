-- The slots of all accepted changes, as one of them is another.
use Rattle.std.proofs.Common.{◌≡◌, ℕ, ◌+◌, ◌-◌, ◌<◌, ◌≤◌, Bool, true, false, List, [], length, get_or, Option, refl, sym, ap, ◌∙◌, arith, not, ◌||◌, ◌&&◌, is_none, true≢false, ⊎_elim}
use Rattle.std.specs.List.{prefix_len, position_or_len}
use Rattle.std.proofs.lemmas.Bool.{cases_lt}
use Rattle.std.proofs.lemmas.List.{length-map}
use Rattle.std.proofs.lemmas.List.Sums.{prefix_len_passes, passes_at_first}
use Rattle.cq_base.proofs.Bools.{or-true}
use Rattle.cq_history.specs.Changes.{is_put}
use Rattle.cq_history.specs.Gone.{IsKept}
use Rattle.cq_history.specs.State.{Slot, no_slot, is_free, is_done, first_free, IsAccepted, IsUndone}
use Rattle.cq_history.proofs.Bounds.{prefix_len-set-le}
use Rattle.cq_kept.specs.Slots.{slot_at, changes_of, state_from, with_holder, with_work}

free_put : (a b c : Bool) → (not (not a || b) && c) ≡ true → a ≡ true
free_put true b c h = refl
free_put false b c h = h

pub free_is_put : (slot : Slot) → is_free slot ≡ true → is_put slot.change ≡ true
free_is_put slot h = free_put (is_put slot.change) slot.finished (is_none slot.holder) h

free_undone : (a b : Bool) → (not a && b) ≡ true → a ≡ false
free_undone true b h = absurd (cc)
free_undone false b h = refl

pub free_not_done : (slot : Slot) → is_free slot ≡ true → is_done slot ≡ false
free_not_done slot h = free_undone (is_done slot) (is_none slot.holder) h

undone_put : (a b : Bool) → (not a || b) ≡ false → a ≡ true
undone_put true b h = refl
undone_put false b h = absurd (true≢false h)

-- only a put can be undone
pub undone_is_put : (slot : Slot) → is_done slot ≡ false → is_put slot.change ≡ true
undone_is_put slot h = undone_put (is_put slot.change) slot.finished h

-- the first free change, where there is one
pub first_is_free : (slots : List Slot) (i : ℕ) → i ≡ position_or_len is_free slots → i < length slots → is_free (slot_at slots (i + 1)) ≡ true
first_is_free slots i first within =
    ap (λ n. is_free (get_or slots n no_slot)) (let e : i + 1 - 1 ≡ position_or_len is_free slots = omega (arith, first) in e) ∙ passes_at_first is_free slots no_slot (omega (arith, first, within))

pub is_next : (slots : List Slot) (p f : ℕ) (views : List (Option ℕ)) (i r : ℕ) → i ≡ position_or_len is_free slots → i < length slots → r ≡ i + 1 → (r ≡ first_free (state_from slots p f views)) × IsAccepted (state_from slots p f views) r
is_next slots p f views i r first within number = (number ∙ ap (λ n. n + 1) first, (omega (arith, number), omega (arith, number, within)))

-- what the floor lets go of is done, so what is not done is kept
pub undone_kept : (slots : List Slot) (floor r : ℕ) → floor ≤ prefix_len is_done slots → IsUndone (state_from slots 0 0 []) r → IsKept (changes_of slots) floor r
undone_kept slots floor r done is = (
  (is.0.0, omega (arith, is.0.1, length-map slots (λ (s : Slot). s.change))),
  λ gone. true≢false (sym (prefix_len_passes is_done slots (r - 1) no_slot (omega (arith, gone.within, done, is.0.0))) ∙ is.1),
)

-- a change that is kept is accepted
pub held_accepted : (slots : List Slot) (floor r : ℕ) → IsKept (changes_of slots) floor r → IsAccepted (state_from slots 0 0 []) r
held_accepted slots floor r held = (held.0.0, omega (arith, held.0.1, length-map slots (λ (s : Slot). s.change)))

pub undone_behind : (slots : List Slot) (floor r : ℕ) → floor ≤ prefix_len is_done slots → IsUndone (state_from slots 0 0 []) r → floor ≤ r - 1
undone_behind slots floor r done is =
    ⊎_elim
    (λ (lt : r - 1 < floor). absurd (true≢false (sym (prefix_len_passes is_done slots (r - 1) no_slot (omega (arith, lt, done))) ∙ is.1)))
    (λ ge. ge)
    (cases_lt (r - 1) floor)

-- no fewer are done at the front with another holder
pub held_grows : (slots : List Slot) (r : ℕ) (holder : Option ℕ) → prefix_len is_done slots ≤ prefix_len is_done (with_holder slots r holder)
held_grows slots r holder = prefix_len-set-le slots (r - 1) (record { change = (slot_at slots r).change; finished = (slot_at slots r).finished; holder = holder }) (λ h. h)

pub worked_is_done : (slots : List Slot) (r : ℕ) → is_done (let s : Slot = record { change = (slot_at slots r).change; finished = true; holder = (slot_at slots r).holder } in s) ≡ true
worked_is_done slots r = or-true (not (is_put (slot_at slots r).change))

-- nor where the work of one is done
pub worked_grows : (slots : List Slot) (r : ℕ) → prefix_len is_done slots ≤ prefix_len is_done (with_work slots r)
worked_grows slots r = prefix_len-set-le slots (r - 1) (record { change = (slot_at slots r).change; finished = true; holder = (slot_at slots r).holder }) (λ h. worked_is_done slots r)

pub done_not_free : (slot : Slot) → is_done slot ≡ true → is_free slot ≡ false
done_not_free slot e = ap (λ b. not b && is_none slot.holder) e
