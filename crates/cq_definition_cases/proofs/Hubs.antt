-- What the calls of a hub may not come to. The clauses of the trait are over what a pass stands for; here a pass is the history
-- that its one caller has seen.
use Rattle.std.specs.Prelude.{◌≡◌, ℕ, false, List, [], ◌∷◌, ◌++◌, length}
use Rattle.std.specs.Arc.{arc_value}
use Rattle.std.specs.declared.alloc.Global.{Global}
use Rattle.std.specs.declared.sync.Arc.{Arc}
use Rattle.std.proofs.Common.{arith, ap, refl, sym, ◌∙◌, subst, append-nil}
use Rattle.cq_base.specs.declared.change.Change.{Change}
use Rattle.cq_base.specs.declared.change.Change.TheVariants.{Put}
use Rattle.cq_base.specs.declared.lang.Lang.{Lang}
use Rattle.cq_base.specs.declared.lang.Lang.TheVariants.{Any}
use Rattle.cq_base.specs.declared.settings.Settings.{Settings}
use Rattle.cq_board.specs.declared.answers.Asked.{Asked}
use Rattle.cq_board.specs.declared.listing.View.{View}
use Rattle.cq_history.specs.Changes.{IsWorkFor}
use Rattle.cq_history.specs.declared.event.Event.{Event}
use Rattle.cq_history.specs.declared.event.Event.TheVariants as event
use Rattle.cq_history.specs.State.{State, after, own, slot_of, state, IsDone, IsTakenBy}
use Rattle.cq_history.proofs.Prefixes.{own-append}
use Rattle.cq_history.proofs.States.{state_push}
use Rattle.cq_hub.specs.Answers.{Accepts, Does, GivesBack, HasNot, HasSeenItsWork, IsTold, Opens, SeesDone, Shuts}
use Rattle.cq_hub.specs.Hubs.{Calls, Extends, Never}
use Rattle.cq_hub.specs.Says.{IsAcceptedAs}

-- a pass of the caller with this number is the history that it has seen
abbrev stands_for : ℕ → Unit {0} → List Event → ℕ → List Event → Type 0
stands_for by hub pass c h = (c ≡ by) × (h ≡ pass)

-- ---- what a call of such a hub comes to

-- nobody else's events come, and then the call's own
at_once : (alone : Type 0) (May : Event → Type 0) (by : ℕ) (old : List Event) (events : ℕ → List Event) (Says : ℕ → List Event → Type 0)
    → Says by old → Extends (stands_for by) alone May tt old (old ++ events by) events Says
at_once alone May by old events Says says c h stands =
    subst (λ (b : ℕ). Calls (stands_for by) alone May b tt (old ++ events by) h (events b) (Says b)) (sym stands.0)
    (subst (λ (g : List Event). Calls (stands_for by) alone May by tt (old ++ events by) g (events by) (Says by)) (sym stands.1)
    (record { mid = old; others = record { more = []; after_is = sym (append-nil old); own_is = refl; alone_is = λ a. tt }; says = says; stands = (refl, refl) }))

module _ (alone : Type 0) (May : Event → Type 0) (by : ℕ) (old new events : List Event) (Says : List Event → Type 0) (call : Calls (stands_for by) alone May by tt new old events Says) where
  -- how many events the caller has after it
  own_count : length (own by new) ≡ length ((own by old ++ []) ++ own by events)
  own_count =
      ap (λ (es : List Event). length es)
      (ap (own by) (sym call.stands.1) ∙ (own-append by call.mid events ∙ ap (λ (es : List Event). es ++ own by events)
      (ap (own by) call.others.after_is ∙ (own-append by old call.others.more ∙ ap (λ (es : List Event). own by old ++ es) call.others.own_is))))

module _ (alone : Type 0) (May : Event → Type 0) (by callers : ℕ) (old new : List Event) (e : Event) (Says : List Event → Type 0) (call : Calls (stands_for by) alone May by tt new old (e ∷ []) Says) where
  -- the state after it is that of the moment which it speaks of, with its event
  moment : state callers new ≡ after (state callers call.mid) e
  moment = ap (state callers) (sym call.stands.1) ∙ state_push callers call.mid e

-- ---- one change: caller 0 put a text and took the change, and caller 1 did its work

abbrev pub put : Change
put = Put (0 ∷ []) (1 ∷ []) Any []

abbrev taken : List Event
taken = event.Accept 0 put ∷ event.Took 0 1 ∷ []

abbrev done : List Event
done = event.Accept 0 put ∷ event.Took 0 1 ∷ event.Done 1 1 ∷ []

-- version 1 is published then, and this is what caller 0 does
abbrev published : Event → List Event
published e = event.Accept 0 put ∷ event.Took 0 1 ∷ event.Done 1 1 ∷ event.Publish 1 ∷ e ∷ []

abbrev opened : List Event
opened = event.Open 0 0 ∷ []

-- what no limit stands against
abbrev ample : Settings
ample = record { chunk = 2; shards = 16; key_bits = 64; ignore_ids = false; ignore_lits = false; change_limit = 262144; text_limit = 33554432; byte_limit = 1152921504606846976 }

-- a work of a text is the text
abbrev is_text : Settings → Lang → List ℕ → List ℕ → Type 0
is_text set lang text work = work ≡ text

module _ (set : Settings) (alone : Type 0) where
  pub a_change_is_accepted_for_its_caller : (number : ℕ) → Accepts (stands_for 1) alone (λ _. set) (λ _. 2) tt [] (event.Accept 0 put ∷ []) put number → ⊥
  a_change_is_accepted_for_its_caller number accepts =
      let none : 0 ≡ 1 = own_count alone Never 1 [] (event.Accept 0 put ∷ []) (event.Accept 1 put ∷ []) _ (accepts 1 [] (refl, refl)) in omega (arith, none)

  -- it is accepted so
  pub a_change_has_its_callers_number : Accepts (stands_for 1) alone (λ _. ample) (λ _. 2) tt [] (event.Accept 1 put ∷ []) put 1
  a_change_has_its_callers_number = at_once alone Never 1 [] (λ c. event.Accept c put ∷ []) (λ _. IsAcceptedAs ample 2 put 1) (refl, refl)

  pub a_question_is_added_once : (asked : Asked) → IsTold (stands_for 0) alone (λ _. set) (λ _. 1) tt [] (event.Ask 0 ∷ event.Ask 0 ∷ []) asked → ⊥
  a_question_is_added_once asked told =
      let one : 2 ≡ 1 = own_count alone Never 0 [] (event.Ask 0 ∷ event.Ask 0 ∷ []) (event.Ask 0 ∷ []) _ (told 0 [] (refl, refl)) in omega (arith, one)

  pub who_did_no_work_is_not_told_that_it_did : Does (stands_for 0) alone (λ _. set) (λ _. 2) tt done done 1 → ⊥
  who_did_no_work_is_not_told_that_it_did does =
      let none : 2 ≡ 3 = own_count alone Never 0 done done (event.Done 0 1 ∷ []) _ (does 0 done (refl, refl)) in omega (arith, none)

  -- it is told this
  pub who_comes_late_is_told_so : SeesDone (stands_for 0) alone (λ _. set) (λ _. 2) tt done done 1
  who_comes_late_is_told_so = at_once alone Never 0 done (λ _. []) (λ _ mid. IsDone (state 2 mid) 1) ((omega arith, omega arith), refl)

  pub a_change_that_was_given_back_was_taken : HasNot (stands_for 0) alone (λ _. set) (λ _. 1) tt taken (event.Accept 0 put ∷ event.Took 0 1 ∷ event.Back 0 1 ∷ []) 1 → ⊥
  a_change_that_was_given_back_was_taken has_not =
      let none : 3 ≡ 2 = own_count alone Never 0 taken (event.Accept 0 put ∷ event.Took 0 1 ∷ event.Back 0 1 ∷ []) [] _ (has_not 0 taken (refl, refl)) in omega (arith, none)

  -- its caller is told this
  pub who_has_a_change_may_give_it_back : GivesBack (stands_for 0) alone (λ _. set) (λ _. 1) tt taken (event.Accept 0 put ∷ event.Took 0 1 ∷ event.Back 0 1 ∷ []) 1
  who_has_a_change_may_give_it_back =
      at_once alone Never 0 taken (λ c. event.Back c 1 ∷ []) (λ c mid. IsTakenBy (state 1 mid) 1 c) (((omega arith, omega arith), refl), refl)

  pub a_view_that_stays_open_is_not_shut : Shuts (stands_for 0) alone (λ _. set) (λ _. 1) tt opened opened → ⊥
  a_view_that_stays_open_is_not_shut shuts =
      let none : 1 ≡ 2 = own_count alone Never 0 opened opened (event.Shut 0 ∷ []) _ (shuts 0 opened (refl, refl)) in omega (arith, none)

  pub a_view_is_shut_by_its_caller : Shuts (stands_for 0) alone (λ _. set) (λ _. 1) tt opened (event.Open 0 0 ∷ event.Shut 0 ∷ [])
  a_view_is_shut_by_its_caller = at_once alone Never 0 opened (λ c. event.Shut c ∷ []) (λ _ _. Unit {0}) tt

  -- ---- what was so before the call is not told once it is so no more

  pub a_question_is_answered_as_it_is_asked : (asked : Asked) → asked.published ≡ 0 → IsTold (stands_for 0) alone (λ _. set) (λ _. 2) tt done (published (event.Ask 0)) asked → ⊥
  a_question_is_answered_as_it_is_asked asked earlier told =
      let call = told 0 done (refl, refl) in
      let last : 1 ≡ (state 2 call.mid).published = ap (λ (s : State). s.published) (moment alone Never 0 2 done (published (event.Ask 0)) (event.Ask 0) _ call) in
      let same : asked.published ≡ (state 2 call.mid).published = ap (λ (a : Asked). a.published) call.says in omega (arith, earlier, last, same)

  pub a_view_is_of_the_version_that_is_published :
      {W : Type 0} (IsWorkOf : Settings → Lang → List ℕ → W → Type 0) (view : View W) → view.version ≡ 0
      → Opens (stands_for 0) alone (λ _. set) (λ _. 2) tt done (published (event.Open 0 view.version)) IsWorkOf view → ⊥
  a_view_is_of_the_version_that_is_published IsWorkOf view earlier opens =
      let call = opens 0 done (refl, refl) in
      let last : 1 ≡ (state 2 call.mid).published = ap (λ (s : State). s.published) (moment alone Never 0 2 done (published (event.Open 0 view.version)) (event.Open 0 view.version) _ call) in
      let same : view.version ≡ (state 2 call.mid).published = call.says.0 in omega (arith, earlier, last, same)

  -- ---- what a call asks for

  pub the_work_of_another_text_is_not_the_changes : (work : Arc (List ℕ) Global) → arc_value work ≡ 2 ∷ [] → HasSeenItsWork (stands_for 0) (λ _. set) (λ _. 1) tt taken is_text 1 work → ⊥
  the_work_of_another_text_is_not_the_changes work other (c, h, stands, (accepted, is)) =
      let of : IsWorkFor (is_text set) put (arc_value work) = subst (λ (g : List Event). IsWorkFor (is_text set) (slot_of (state 1 g) 1).change (arc_value work)) stands.1 is in
      let none : length (arc_value work) ≡ 0 = ap (λ (bytes : List ℕ). length bytes) of in
      let one : length (arc_value work) ≡ 1 = ap (λ (bytes : List ℕ). length bytes) other in omega (arith, none, one)
