-- A board that steps by an allowed event adds it to each history that it stands for.
use Rattle.std.proofs.Common.{◌≡◌, ℕ, ◌+◌, ◌%◌, ◌^◌, [], ◌∷◌, ◌++◌, length, refl, sym, ap, ap₂, ◌∙◌, subst, arith}
use Rattle.std.specs.Prelude.{All}
use Rattle.std.proofs.Math.Nat.{add-mod-mod}
use Rattle.std.proofs.lemmas.List.Elements.{All-nil, All-cons, All-append}
use Rattle.std.proofs.lemmas.List.{length_push}
use Rattle.cq_base.specs.declared.settings.Settings.{Settings}
use Rattle.cq_history.specs.declared.event.Event.{Event}
use Rattle.cq_history.specs.declared.event.Event.TheVariants.{Accept, Ask, Took, Back, Done, Publish, Open, Shut, Floor}
use Rattle.cq_history.specs.State.{State, after, accepted, changes_in, state as state_of}
use Rattle.cq_history.specs.Lawful.{Allowed, IsByCaller, Permits, Lawful}
use Rattle.cq_base.specs.Changes.{IsSoundChange}
use Rattle.cq_board.specs.Sound.{AreSound}
use Rattle.cq_board.specs.Stands.{BoardState, Adds}
use Rattle.cq_history.proofs.Prefixes.{changes_after}
use Rattle.cq_history.proofs.States.{state_push, Lawful_push}
use Rattle.cq_history.proofs.Openings.{views_after}

next_count : (n m : ℕ) → n ≡ m % 2 ^ 64 → (n + 1) % 2 ^ 64 ≡ (m + 1) % 2 ^ 64
next_count n m is = ap (λ k. k % 2 ^ 64) (let e : n + 1 ≡ 1 + m % 2 ^ 64 = omega (arith, is) in e) ∙ add-mod-mod 1 m (2 ^ 64) ∙ ap (λ k. k % 2 ^ 64) (let e : 1 + m ≡ m + 1 = omega arith in e)

-- what the event brings is sound
abbrev pub IsSoundEvent : Event → Type 0
IsSoundEvent (Accept by change) = IsSoundChange change
IsSoundEvent (Ask by) = Unit {0}
IsSoundEvent (Took by r) = Unit {0}
IsSoundEvent (Back by r) = Unit {0}
IsSoundEvent (Done by r) = Unit {0}
IsSoundEvent (Publish p) = Unit {0}
IsSoundEvent (Open by p) = Unit {0}
IsSoundEvent (Shut by) = Unit {0}
IsSoundEvent (Floor f) = Unit {0}

accepted_sound : (e : Event) → IsSoundEvent e → All IsSoundChange (accepted (e ∷ []))
accepted_sound (Accept by change) is = All-cons IsSoundChange change [] is (All-nil IsSoundChange)
accepted_sound (Ask by) is = All-nil IsSoundChange
accepted_sound (Took by r) is = All-nil IsSoundChange
accepted_sound (Back by r) is = All-nil IsSoundChange
accepted_sound (Done by r) is = All-nil IsSoundChange
accepted_sound (Publish p) is = All-nil IsSoundChange
accepted_sound (Open by p) is = All-nil IsSoundChange
accepted_sound (Shut by) is = All-nil IsSoundChange
accepted_sound (Floor f) is = All-nil IsSoundChange

-- the changes stay sound
sound_after : (s : State) (e : Event) → AreSound s → IsSoundEvent e → AreSound (after s e)
sound_after s e old is = subst (All IsSoundChange) (sym (changes_after s e)) (All-append IsSoundChange (changes_in s) (accepted (e ∷ [])) old (accepted_sound e is))

-- the board is as before but for the step
pub Adds_step : (set : Settings) (s : State) (n : ℕ) (e : Event) → IsSoundEvent e → Allowed set s e → Adds e (record { settings = set; state = s; events = n }) (record { settings = set; state = after s e; events = (n + 1) % 2 ^ 64 })
Adds_step set s n e sound ok = record {
  history = λ h is.
      let same_views : length (after s e).views ≡ length s.views = views_after s e in
      let law : Lawful set (length s.views) (h ++ e ∷ []) = Lawful_push set (length s.views) h e is.lawful (subst (λ t. Allowed set t e) is.is ok) in
      let same : after s e ≡ state_of (length s.views) (h ++ e ∷ []) = ap (λ t. after t e) is.is ∙ sym (state_push (length s.views) h e) in
      record {
        lawful = subst (λ m. Lawful set m (h ++ e ∷ [])) (sym same_views) law;
        is = subst (λ m. after s e ≡ state_of m (h ++ e ∷ [])) (sym same_views) same;
        events = next_count n (length h) is.events ∙ ap (λ k. k % 2 ^ 64) (sym (length_push h e));
        sound = sound_after s e is.sound sound;
      };
  settings = refl;
  callers = views_after s e;
}

-- the same of a board as its callers see it, with an event by one of them or by nobody
pub Adds_from : (set : Settings) (s t : State) (n m : ℕ) (b c : BoardState) (e : Event) → record { settings = set; state = s; events = n } ≡ b → c ≡ record { settings = set; state = t; events = m } → m ≡ (n + 1) % 2 ^ 64 → t ≡ after s e → IsByCaller b.state e → Permits set s e → IsSoundEvent e → Adds e b c
Adds_from set s t n m b c e old new count step by ok sound =
    subst (λ x. Adds e x c) old
    (subst (Adds e (record { settings = set; state = s; events = n })) (sym (new ∙ ap₂ (λ (u : State) (k : ℕ). let v : BoardState = record { settings = set; state = u; events = k } in v) step count))
    (Adds_step set s n e sound (subst (λ (x : BoardState). IsByCaller x.state e) (sym old) by, ok)))
