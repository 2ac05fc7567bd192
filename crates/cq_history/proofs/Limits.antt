-- What is accepted and what is kept along a lawful history is within the limits.
use Rattle.std.proofs.Common.{◌≡◌, ℕ, ◌+◌, ◌-◌, ◌^◌, ◌≤◌, List, [], ◌∷◌, ◌++◌, length, subst, ap, ◌∙◌, refl, arith, length-append}
use Rattle.std.specs.Prelude.{nat_le, false}
use Rattle.std.proofs.lemmas.Bool.{or_parts, leb-false, ltb-false}
use Rattle.std.proofs.lemmas.List.{length-map, length-set}
use Rattle.std.proofs.lemmas.List.Sums.{prefix_len-le-length}
use Rattle.cq_base.specs.declared.settings.Settings.{Settings}
use Rattle.cq_base.specs.declared.change.Change.{Change}
use Rattle.cq_base.specs.declared.change.Change.TheVariants.{Put, Drop, Gate}
use Rattle.cq_history.specs.declared.event.Event.{Event}
use Rattle.cq_history.specs.declared.event.Event.TheVariants.{Accept, Ask, Took, Back, Done, Publish, Open, Shut, Floor}
use Rattle.cq_history.specs.Changes.{text_len}
use Rattle.cq_history.specs.Gone.{kept_count, kept_bytes}
use Rattle.cq_history.specs.State.{State, Slot, start, after, state, changes_in, accepted, is_done, new_slot}
use Rattle.cq_history.specs.Lawful.{Allowed, Lawful, is_long, kept_changes, kept_text_bytes}
use Rattle.cq_history.proofs.States.{by_events}
use Rattle.cq_history.proofs.Bounds.{InOrder, in_order, in_order_after}
use Rattle.cq_history.proofs.Prefixes.{changes_in-state, changes_after, map_change-set}
use Rattle.cq_history.proofs.Doing.{slots_number}
use Rattle.cq_history.proofs.Keeping.{kept_falls, count_more, bytes_more}

-- so many were accepted, and so many are kept, with so many bytes
pub record AreWithin (set : Settings) (s : State) : Type 0 where
  pub accepted : length s.slots ≤ 2 ^ 60
  pub kept : kept_changes s ≤ set.change_limit
  pub bytes : kept_text_bytes s ≤ set.text_limit

-- a text that is not too long fits
fits : (set : Settings) (s : State) (change : Change) → kept_text_bytes s ≤ set.text_limit → is_long set s change ≡ false → kept_text_bytes s + text_len change ≤ set.text_limit
fits set s (Put project path lang text) low ok = ltb-false set.text_limit (kept_text_bytes s + length text) ok
fits set s (Drop project path) low ok = omega (arith, low)
fits set s (Gate project conditions) low ok = omega (arith, low)

-- the same changes, as many slots, and the same floor
same_within : (set : Settings) (s t : State) → changes_in t ≡ changes_in s → length t.slots ≡ length s.slots → t.floor ≡ s.floor → AreWithin set s → AreWithin set t
same_within set s t changes slots floor w =
    let count : kept_changes t ≡ kept_changes s = ap (λ cs. kept_count cs t.floor) changes ∙ ap (kept_count (changes_in s)) floor in
    let sum : kept_text_bytes t ≡ kept_text_bytes s = ap (λ cs. kept_bytes cs t.floor) changes ∙ ap (kept_bytes (changes_in s)) floor in
    record {
      accepted = omega (arith, slots, w.accepted);
      kept = omega (arith, count, w.kept);
      bytes = omega (arith, sum, w.bytes);
    }

within_after : (set : Settings) (s : State) (e : Event) → InOrder s → AreWithin set s → Allowed set s e → AreWithin set (after s e)
within_after set s (Accept by change) i w ok =
    let room = or_parts (nat_le set.change_limit (kept_changes s)) (nat_le (2 ^ 60) (length s.slots)) ok.1.1 in
    let kept_room = leb-false set.change_limit (kept_changes s) room.0 in
    let number_room = leb-false (2 ^ 60) (length s.slots) room.1 in
    let ready = prefix_len-le-length is_done s.slots in
    let many : length (changes_in s) ≡ length s.slots = length-map s.slots (λ (slot : Slot). slot.change) in
    let low : s.floor ≤ length (changes_in s) = omega (arith, i.floor, i.published, ready, many) in
    let changes : changes_in (after s (Accept by change)) ≡ changes_in s ++ change ∷ [] = changes_after s (Accept by change) in
    let count : kept_changes (after s (Accept by change)) ≡ kept_changes s + 1 = ap (λ cs. kept_count cs s.floor) changes ∙ count_more (changes_in s) s.floor change low in
    let sum : kept_text_bytes (after s (Accept by change)) ≡ kept_text_bytes s + text_len change = ap (λ cs. kept_bytes cs s.floor) changes ∙ bytes_more (changes_in s) s.floor change low in
    let slots : length (s.slots ++ new_slot change ∷ []) ≡ length s.slots + 1 = length-append s.slots (new_slot change ∷ []) in
    record {
      accepted = omega (arith, slots, number_room);
      kept = omega (arith, count, kept_room);
      bytes = omega (arith, sum, fits set s change w.bytes ok.1.2);
    }
within_after set s (Ask by) i w ok = w
within_after set s (Took by r) i w ok = same_within set s (after s (Took by r)) (map_change-set s.slots (r - 1) _ refl) (length-set s.slots (r - 1) _) refl w
within_after set s (Back by r) i w ok = same_within set s (after s (Back by r)) (map_change-set s.slots (r - 1) _ refl) (length-set s.slots (r - 1) _) refl w
within_after set s (Done by r) i w ok = same_within set s (after s (Done by r)) (map_change-set s.slots (r - 1) _ refl) (length-set s.slots (r - 1) _) refl w
within_after set s (Publish p) i w ok = same_within set s (after s (Publish p)) refl refl refl w
within_after set s (Open by p) i w ok = same_within set s (after s (Open by p)) refl refl refl w
within_after set s (Shut by) i w ok = same_within set s (after s (Shut by)) refl refl refl w
within_after set s (Floor f) i w ok =
    let falls = kept_falls (changes_in s) s.floor f (omega (arith, ok.1.0)) in
    record { accepted = w.accepted; kept = omega (arith, falls.0, w.kept); bytes = omega (arith, falls.1, w.bytes) }

pub are_within : (set : Settings) (callers : ℕ) (h : List Event) → Lawful set callers h → AreWithin set (state callers h)
are_within set callers h law =
    (by_events set (λ s. InOrder s × AreWithin set s) (λ s e both ok. (in_order_after set s e both.0 ok, within_after set s e both.0 both.1 ok)) (start callers) h
    (in_order set callers [] tt, record { accepted = omega arith; kept = omega arith; bytes = omega arith }) law).1

pub few_accepted : (set : Settings) (callers : ℕ) (h : List Event) → Lawful set callers h → (length (state callers h).slots ≡ length (accepted h)) × (length (accepted h) ≤ 2 ^ 60)
few_accepted set callers h law =
    let w = are_within set callers h law in
    (slots_number callers h, omega (arith, w.accepted, slots_number callers h))

pub few_kept : (set : Settings) (callers : ℕ) (h : List Event) → Lawful set callers h → (kept_count (accepted h) (state callers h).floor ≤ set.change_limit) × (kept_bytes (accepted h) (state callers h).floor ≤ set.text_limit)
few_kept set callers h law =
    let w = are_within set callers h law in
    let same = changes_in-state callers h in
    (subst (λ cs. kept_count cs (state callers h).floor ≤ set.change_limit) same w.kept, subst (λ cs. kept_bytes cs (state callers h).floor ≤ set.text_limit) same w.bytes)
