-- What a caller has taken goes by its own events.
use Rattle.std.proofs.Common.{◌≡◌, ◌⊎◌, ℕ, ◌-◌, ◌<◌, ◌≤◌, Bool, true, false, cond, List, [], ◌∷◌, ◌++◌, length, fold, Option, Some, None, refl, sym, ap, ◌∙◌, subst, inl, inr, ⊎_elim, arith, eq-eqb, true≢false}
use Rattle.std.specs.Prelude.{◌==◌, Contains}
use Rattle.std.proofs.lemmas.Bool.{cases_lt, false_from_ne_true}
use Rattle.std.proofs.lemmas.List.{get_or_past}
use Rattle.std.proofs.lemmas.List.Elements.{Contains-push}
use Rattle.std.proofs.lemmas.List.Sums.{fold_push, fold-append}
use Rattle.cq_base.specs.declared.settings.Settings.{Settings}
use Rattle.cq_base.proofs.Lists.{Contains-here, Contains-there}
use Rattle.cq_history.specs.declared.event.Event.{Event}
use Rattle.cq_history.specs.declared.event.Event.TheVariants.{Accept, Ask, Took, Back, Done, Publish, Open, Shut, Floor}
use Rattle.cq_history.specs.State.{State, state, slot_of, no_slot, is_done, maker, is_by, own, IsAccepted, IsTakenBy}
use Rattle.cq_history.specs.Lasts.{holder_after, holder_in}
use Rattle.cq_history.specs.Lawful.{Lawful}
use Rattle.cq_history.proofs.States.{Lawful-prefix}
use Rattle.cq_history.proofs.Numbers.{same_number}
use Rattle.cq_history.proofs.Holders.{took_last}
use Rattle.cq_history.proofs.Doing.{done_is, done_stays}

-- one event more: what the caller had before, or what it takes
by_event : (by r : ℕ) (now : Option ℕ) (e : Event) → holder_after r now e ≡ Some by → (now ≡ Some by) ⊎ (e ≡ Took by r)
by_event by r now (Accept c change) h = inl h
by_event by r now (Ask c) h = inl h
by_event by r now (Took c t) h = go (r == t) refl h
  where
    go : (b : Bool) → (r == t) ≡ b → cond b (Some c) now ≡ Some by → (now ≡ Some by) ⊎ (Took c t ≡ Took by r)
    go true e is = let same : c ≡ by = cc (is) in inr (ap (λ n. Took n t) same ∙ ap (Took by) (sym (same_number r t e)))
    go false e is = inl is
by_event by r now (Back c t) h = go (r == t) h
  where
    go : (b : Bool) → cond b None now ≡ Some by → (now ≡ Some by) ⊎ (Back c t ≡ Took by r)
    go true is = absurd (cc)
    go false is = inl is
by_event by r now (Done c t) h = inl h
by_event by r now (Publish p) h = inl h
by_event by r now (Open c p) h = inl h
by_event by r now (Shut c) h = inl h
by_event by r now (Floor f) h = inl h

own_there : (b : Bool) (e x : Event) (es : List Event) → Contains es x → Contains (cond b (e ∷ es) es) x
own_there true e x es there = Contains-there e x es there
own_there false e x es there = there

own_here : (by r : ℕ) (es : List Event) → Contains (own by (Took by r ∷ es)) (Took by r)
own_here by r es = subst (λ b. Contains (cond b (Took by r ∷ own by es) (own by es)) (Took by r)) (sym (eq-eqb by by refl)) (Contains-here (Took by r) (own by es))

had : (by r : ℕ) (now : Option ℕ) (es : List Event) → fold (holder_after r) now es ≡ Some by → (now ≡ Some by) ⊎ Contains (own by es) (Took by r)
had by r now [] h = inl h
had by r now (e ∷ es) h =
    ⊎_elim
    (λ before. ⊎_elim (λ was. inl was) (λ took. inr (subst (λ x. Contains (own by (x ∷ es)) (Took by r)) (sym took) (own_here by r es))) (by_event by r now e before))
    (λ later. inr (own_there (is_by by (maker e)) e (Took by r) (own by es) later))
    (had by r (holder_after r now e) es h)

-- who has a change has one that is accepted
accepted_held : (s : State) (by r : ℕ) → 0 < r → (slot_of s r).holder ≡ Some by → IsAccepted s r
accepted_held s by r some held =
    ⊎_elim
    (λ (within : r - 1 < length s.slots). (some, omega (arith, within)))
    (λ (past : length s.slots ≤ r - 1). let none : None ≡ Some by = sym (ap (λ slot. slot.holder) (get_or_past s.slots (r - 1) no_slot past)) ∙ held in absurd (cc))
    (cases_lt (r - 1) (length s.slots))

module _ (set : Settings) (callers : ℕ) where
  pub taken_since : (h later : List Event) (by r : ℕ) → Lawful set callers (h ++ later) → IsTakenBy (state callers (h ++ later)) r by → IsTakenBy (state callers h) r by ⊎ Contains (own by later) (Took by r)
  taken_since h later by r law is =
      let some : 0 < r = is.0.0.0 in
      let held : fold (holder_after r) (holder_in r h) later ≡ Some by = sym (fold-append (holder_after r) None h later) ∙ sym (took_last set callers (h ++ later) r law some) ∙ is.1 in
      ⊎_elim (λ was. inl (before some (took_last set callers h r (Lawful-prefix set callers h later law) some ∙ was))) (λ took. inr took) (had by r (holder_in r h) later held)
    where
      before : 0 < r → (slot_of (state callers h) r).holder ≡ Some by → IsTakenBy (state callers h) r by
      before some held =
          let there = accepted_held (state callers h) by r some held in
          ((there, false_from_ne_true (is_done (slot_of (state callers h) r)) (λ done. true≢false (sym (done_stays set callers h later r law (there, done)).1 ∙ is.0.1))), held)

  -- nobody has what was just given back, or is done
  pub over_is_free : (h : List Event) (e : Event) (c by r : ℕ) → Lawful set callers (h ++ e ∷ []) → (e ≡ Back c r) ⊎ (e ≡ Done c r) → IsTakenBy (state callers (h ++ e ∷ [])) r by → ⊥
  over_is_free h e c by r law over is = ⊎_elim given_back done over
    where
      given_back : e ≡ Back c r → ⊥
      given_back same =
          let held : holder_after r (holder_in r h) e ≡ Some by = sym (fold_push (holder_after r) None h e) ∙ sym (took_last set callers (h ++ e ∷ []) r law is.0.0.0) ∙ is.1 in
          let none : None ≡ Some by = sym (ap (λ b. cond b None (holder_in r h)) (eq-eqb r r refl)) ∙ sym (ap (holder_after r (holder_in r h)) same) ∙ held in
          absurd (cc)

      done : e ≡ Done c r → ⊥
      done same =
          let did = (done_is set callers (h ++ e ∷ []) r law).1 (is.0.0, inr (c, subst (Contains (h ++ e ∷ [])) same (Contains-push h e))) in
          true≢false (sym did.1 ∙ is.0.1)
