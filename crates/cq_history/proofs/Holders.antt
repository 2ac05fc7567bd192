-- Who has a change, and whether its work is done, by the events that say so.
use Rattle.std.proofs.Common.{◌≡◌, ◌⊎◌, ℕ, zero, suc, ◌-◌, ◌<◌, Bool, true, false, cond, List, [], ◌∷◌, ◌++◌, fold, get_or, refl, sym, ap, ◌∙◌, inl, inr, ⊎_elim, Option, arith}
use Rattle.std.specs.Prelude.{◌==◌, Contains}
use Rattle.cq_base.specs.declared.settings.Settings.{Settings}
use Rattle.cq_base.specs.declared.change.Change.{Change}
use Rattle.cq_base.proofs.Bools.{cond-same}
use Rattle.cq_base.proofs.Lists.{Contains-there, Contains-cases, Contains-nil}
use Rattle.cq_history.specs.declared.event.Event.{Event}
use Rattle.cq_history.specs.declared.event.Event.TheVariants.{Accept, Ask, Took, Back, Done, Publish, Open, Shut, Floor}
use Rattle.cq_history.specs.State.{State, Slot, state, start, after, slot_of, no_slot, new_slot}
use Rattle.cq_history.specs.Lasts.{holder_after, holder_in, IsDoneIn}
use Rattle.cq_history.specs.Lawful.{Allowed, Lawful, LawfulFrom}
use Rattle.cq_history.proofs.Numbers.{same_number, slot-set, cond-ap}

-- of a part that a new change has as one that is not there
appended : {X : Type 0} (part : Slot → X) (xs : List Slot) (i : ℕ) (c : Change) → part (new_slot c) ≡ part no_slot → part (get_or (xs ++ new_slot c ∷ []) i no_slot) ≡ part (get_or xs i no_slot)
appended part [] zero c same = same
appended part [] (suc i) c same = refl
appended part (x ∷ xs) zero c same = refl
appended part (x ∷ xs) (suc i) c same = appended part xs i c same

-- a part stays where that of the slot does
kept : {X : Type 0} (part : Slot → X) (s : State) (t r : ℕ) → cond (r == t) (part (slot_of s t)) (part (slot_of s r)) ≡ part (slot_of s r)
kept {X} part s t r = go (r == t) refl
  where
    go : (b : Bool) → (r == t) ≡ b → cond b (part (slot_of s t)) (part (slot_of s r)) ≡ part (slot_of s r)
    go true h = ap (λ n. part (slot_of s n)) (sym (same_number r t h))
    go false h = refl

abbrev holder : Slot → Option ℕ
holder s = s.holder

abbrev finished : Slot → Bool
finished s = s.finished

holder_step : (set : Settings) (s : State) (e : Event) (r : ℕ) → Allowed set s e → 0 < r → (slot_of (after s e) r).holder ≡ holder_after r (slot_of s r).holder e
holder_step set s (Accept by change) r ok some = appended holder s.slots (r - 1) change refl
holder_step set s (Ask by) r ok some = refl
holder_step set s (Took by t) r ok some = ap holder (slot-set s.slots t r _ some ok.1.1) ∙ cond-ap holder (r == t) _ (slot_of s r)
holder_step set s (Back by t) r ok some = ap holder (slot-set s.slots t r _ some ok.1.0.0) ∙ cond-ap holder (r == t) _ (slot_of s r)
holder_step set s (Done by t) r ok some = ap holder (slot-set s.slots t r _ some ok.1.0) ∙ cond-ap holder (r == t) _ (slot_of s r) ∙ kept holder s t r
holder_step set s (Publish p) r ok some = refl
holder_step set s (Open by p) r ok some = refl
holder_step set s (Shut by) r ok some = refl
holder_step set s (Floor f) r ok some = refl

holder_from : (set : Settings) (s : State) (h : List Event) (r : ℕ) → LawfulFrom set s h → 0 < r → (slot_of (fold after s h) r).holder ≡ fold (holder_after r) (slot_of s r).holder h
holder_from set s [] r law some = refl
holder_from set s (e ∷ es) r law some =
    holder_from set (after s e) es r law.1 some ∙ ap (λ now. fold (holder_after r) now es) (holder_step set s e r law.0 some)

pub took_last : (set : Settings) (callers : ℕ) (h : List Event) (r : ℕ) → Lawful set callers h → 0 < r → (slot_of (state callers h) r).holder ≡ holder_in r h
took_last set callers h r law some = holder_from set (start callers) h r law some

-- ---- whether its work is done

finished_after : ℕ → Bool → Event → Bool
finished_after r now (Accept by change) = now
finished_after r now (Ask by) = now
finished_after r now (Took by t) = now
finished_after r now (Back by t) = now
finished_after r now (Done by t) = cond (r == t) true now
finished_after r now (Publish p) = now
finished_after r now (Open by p) = now
finished_after r now (Shut by) = now
finished_after r now (Floor f) = now

finished_step : (set : Settings) (s : State) (e : Event) (r : ℕ) → Allowed set s e → 0 < r → (slot_of (after s e) r).finished ≡ finished_after r (slot_of s r).finished e
unfolding finished_after
finished_step set s (Accept by change) r ok some = appended finished s.slots (r - 1) change refl
finished_step set s (Ask by) r ok some = refl
finished_step set s (Took by t) r ok some = ap finished (slot-set s.slots t r _ some ok.1.1) ∙ cond-ap finished (r == t) _ (slot_of s r) ∙ kept finished s t r
finished_step set s (Back by t) r ok some = ap finished (slot-set s.slots t r _ some ok.1.0.0) ∙ cond-ap finished (r == t) _ (slot_of s r) ∙ kept finished s t r
finished_step set s (Done by t) r ok some = ap finished (slot-set s.slots t r _ some ok.1.0) ∙ cond-ap finished (r == t) _ (slot_of s r)
finished_step set s (Publish p) r ok some = refl
finished_step set s (Open by p) r ok some = refl
finished_step set s (Shut by) r ok some = refl
finished_step set s (Floor f) r ok some = refl

finished_from : (set : Settings) (s : State) (h : List Event) (r : ℕ) → LawfulFrom set s h → 0 < r → (slot_of (fold after s h) r).finished ≡ fold (finished_after r) (slot_of s r).finished h
finished_from set s [] r law some = refl
finished_from set s (e ∷ es) r law some =
    finished_from set (after s e) es r law.1 some ∙ ap (λ now. fold (finished_after r) now es) (finished_step set s e r law.0 some)

-- one event more: what was done before, or what it does
by_event : (r : ℕ) (now : Bool) (e : Event) → finished_after r now e ≡ true → (now ≡ true) ⊎ ((by : ℕ) × (e ≡ Done by r))
unfolding finished_after
by_event r now (Accept by change) h = inl h
by_event r now (Ask by) h = inl h
by_event r now (Took by t) h = inl h
by_event r now (Back by t) h = inl h
by_event r now (Done by t) h = go (r == t) refl h
  where
    go : (b : Bool) → (r == t) ≡ b → cond b true now ≡ true → (now ≡ true) ⊎ ((d : ℕ) × (Done by t ≡ Done d r))
    go true e is = inr (by, ap (Done by) (sym (same_number r t e)))
    go false e is = inl is
by_event r now (Publish p) h = inl h
by_event r now (Open by p) h = inl h
by_event r now (Shut by) h = inl h
by_event r now (Floor f) h = inl h

finished_by : (r : ℕ) (now : Bool) (h : List Event) → fold (finished_after r) now h ≡ true → (now ≡ true) ⊎ IsDoneIn r h
finished_by r now [] is = inl is
finished_by r now (e ∷ es) is =
    ⊎_elim
    (λ first. ⊎_elim (λ was. inl was) (λ did. inr (did.0, (0, omega arith, did.1))) (by_event r now e first))
    (λ later. inr (later.0, Contains-there e (Done later.0 r) es later.1))
    (finished_by r (finished_after r now e) es is)

-- what is done stays so
stays_finished : (r : ℕ) (e : Event) → finished_after r true e ≡ true
unfolding finished_after
stays_finished r (Accept by change) = refl
stays_finished r (Ask by) = refl
stays_finished r (Took by t) = refl
stays_finished r (Back by t) = refl
stays_finished r (Done by t) = cond-same (r == t) true
stays_finished r (Publish p) = refl
stays_finished r (Open by p) = refl
stays_finished r (Shut by) = refl
stays_finished r (Floor f) = refl

finished_on : (r : ℕ) (h : List Event) → fold (finished_after r) true h ≡ true
finished_on r [] = refl
finished_on r (e ∷ es) = ap (λ now. fold (finished_after r) now es) (stays_finished r e) ∙ finished_on r es

finished_then : (r by : ℕ) (now : Bool) → finished_after r now (Done by r) ≡ true
unfolding finished_after
finished_then r by now = grind arith

finished_in : (r by : ℕ) (now : Bool) (h : List Event) → Contains h (Done by r) → fold (finished_after r) now h ≡ true
finished_in r by now [] c = absurd (Contains-nil (Done by r) c)
finished_in r by now (e ∷ es) c =
    ⊎_elim
    (λ (here : e ≡ Done by r). ap (λ d. fold (finished_after r) (finished_after r now d) es) here ∙ ap (λ b. fold (finished_after r) b es) (finished_then r by now) ∙ finished_on r es)
    (λ later. finished_in r by (finished_after r now e) es later)
    (Contains-cases e (Done by r) es c)

pub finished_is : (set : Settings) (callers : ℕ) (h : List Event) (r : ℕ) → Lawful set callers h → 0 < r → (slot_of (state callers h) r).finished ≡ true → IsDoneIn r h
finished_is set callers h r law some is =
    ⊎_elim (λ (no : (slot_of (start callers) r).finished ≡ true). absurd (none_at_first (r - 1) no)) (λ done. done) (finished_by r (slot_of (start callers) r).finished h (sym (finished_from set (start callers) h r law some) ∙ is))
  where
    none_at_first : (i : ℕ) → (get_or [] i no_slot).finished ≡ true → ⊥
    none_at_first zero e = absurd (cc)
    none_at_first (suc i) e = absurd (cc)

pub is_finished : (set : Settings) (callers : ℕ) (h : List Event) (r : ℕ) → Lawful set callers h → 0 < r → IsDoneIn r h → (slot_of (state callers h) r).finished ≡ true
is_finished set callers h r law some done = finished_from set (start callers) h r law some ∙ finished_in r done.0 (slot_of (start callers) r).finished h done.1
