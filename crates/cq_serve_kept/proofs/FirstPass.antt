-- What the calls of a hub do to what its first pass has taken, if no other caller is made.
use Rattle.std.proofs.Common.{◌≡◌, ℕ, ◌+◌, ◌<◌, ◌≤◌, Bool, true, false, cond, List, [], ◌∷◌, ◌++◌, fold, Some, refl, sym, ap, ap₂, ◌∙◌, subst, arith, append-nil}
use Rattle.std.specs.Prelude.{◌==◌, slice_index}
use Rattle.std.specs.List.{AllByRecursion}
use Rattle.cq_base.specs.declared.change.Change.{Change}
use Rattle.cq_base.specs.declared.settings.Settings.{Settings}
use Rattle.cq_board.specs.declared.answers.Finished.{Finished}
use Rattle.cq_board.specs.declared.answers.Finished.TheVariants as finished
use Rattle.cq_cells.specs.Passes.{by_of}
use Rattle.cq_chain.specs.Held.{IsOfFirst}
use Rattle.cq_chain.specs.Passes.{BoardPass}
use Rattle.cq_history.specs.Lasts.{holder_after, holder_in}
use Rattle.cq_history.specs.Lawful.{Lawful}
use Rattle.cq_history.specs.State.{accepted, maker, own, IsDone, IsUndone}
use Rattle.cq_history.specs.declared.event.Event.{Event}
use Rattle.cq_history.specs.declared.event.Event.TheVariants.{Accept, Ask, Took, Back, Done, Publish, Open, Shut, Floor}
use Rattle.cq_history.proofs.Bounds.{no_view}
use Rattle.cq_history.proofs.Prefixes.{accepted-append}
use Rattle.cq_hub.specs.Hubs.{Grows, Never}
use Rattle.cq_hub.proofs.Following.{done_then}
use Rattle.cq_hub.proofs.Growing.{KeepsView, grows_event, grows_then}
use Rattle.cq_serve.specs.Turns.{AtEase}
use Rattle.cq_serve.proofs.Easing.{eases, took_done}
use Rattle.cq_shared.specs.Answers.{Does, FindsDone}
use Rattle.cq_shared.specs.Calls.{Calls}
use Rattle.cq_shared.specs.SharedPasses.{IsPassOf, OnlyFirstAccepts, callers_of, settings_of, state_of}
use Rattle.cq_shared.specs.declared.shared.Shared.{Shared}
use Rattle.cq_serve_kept.specs.Reloads.{HasTaken}

right_of : (xs ys : List Event) → AllByRecursion IsOfFirst (xs ++ ys) → AllByRecursion IsOfFirst ys
right_of [] ys all = all
right_of (x ∷ xs) ys all = right_of xs ys all.1

passed : (b : Bool) (e : Event) (xs : List Event) → accepted (e ∷ xs) ≡ accepted xs → accepted (cond b (e ∷ xs) xs) ≡ accepted xs
passed true e xs none = none
passed false e xs none = refl

-- if only the first caller accepts, its own events have all acceptances
accepted_own : (more : List Event) → AllByRecursion IsOfFirst more → accepted more ≡ accepted (own 0 more)
accepted_own [] all = refl
accepted_own (Accept by change ∷ es) all =
    subst (λ (n : ℕ). change ∷ accepted es ≡ accepted (own 0 (Accept n change ∷ es))) (sym all.0) (ap (λ (cs : List Change). change ∷ cs) (accepted_own es all.1))
accepted_own (Ask by ∷ es) all = accepted_own es all.1 ∙ sym (passed (0 == by) (Ask by) (own 0 es) refl)
accepted_own (Took by r ∷ es) all = accepted_own es all.1 ∙ sym (passed (0 == by) (Took by r) (own 0 es) refl)
accepted_own (Back by r ∷ es) all = accepted_own es all.1 ∙ sym (passed (0 == by) (Back by r) (own 0 es) refl)
accepted_own (Done by r ∷ es) all = accepted_own es all.1 ∙ sym (passed (0 == by) (Done by r) (own 0 es) refl)
accepted_own (Publish p ∷ es) all = accepted_own es all.1
accepted_own (Open by p ∷ es) all = accepted_own es all.1 ∙ sym (passed (0 == by) (Open by p) (own 0 es) refl)
accepted_own (Shut by ∷ es) all = accepted_own es all.1 ∙ sym (passed (0 == by) (Shut by) (own 0 es) refl)
accepted_own (Floor f ∷ es) all = accepted_own es all.1

-- the hub into which the changes went is this one
pub taken_into : {W R : Type 0} (there hub : Shared W R) (p : BoardPass) (set : Settings) (changes : List Change) → there ≡ hub → HasTaken there p set changes → HasTaken hub p set changes
taken_into {W} {R} there hub p set changes same is = subst (λ (h : Shared W R). HasTaken h p set changes) same is

module _ {W R : Type 0} (hub : Shared W R) where
  pub lawful_seen : (p : BoardPass) → IsPassOf hub p → Lawful (settings_of hub) (callers_of hub) p.seen
  lawful_seen p of = of.of.law.lawful

  -- a call of a caller's, by its one event or none
  pub grown : (p q : BoardPass) (c : ℕ) (e : Event) (Says : List Event → Type 0) → by_of p ≡ c → maker e ≡ Some c → Calls hub p q (e ∷ []) Says → Grows ⊥ Never c p.seen q.seen (e ∷ [])
  grown p q c e Says is made call =
      subst (λ (g : List Event). Grows ⊥ Never c p.seen g (e ∷ [])) (sym call.seen) (grows_event ⊥ c Never p.seen call.mid e made (subst (λ (n : ℕ). Grows ⊥ Never n p.seen call.mid []) is call.others))

  pub waited : (p q : BoardPass) (c : ℕ) (Says : List Event → Type 0) → by_of p ≡ c → Calls hub p q [] Says → Grows ⊥ Never c p.seen q.seen []
  waited p q c Says is call = subst (λ (g : List Event). Grows ⊥ Never c p.seen g []) (sym (call.seen ∙ append-nil call.mid)) (subst (λ (n : ℕ). Grows ⊥ Never n p.seen call.mid []) is call.others)

  -- who ended a work has a pass, whatever the end of the work answers
  pub of_finished : (m q : BoardPass) (r : ℕ) (result : Finished) → (result ≡ finished.Done → Does hub m q r) → (result ≡ finished.Already → FindsDone hub m q r) → IsPassOf hub q
  of_finished m q r finished.Done does late = (does refl).of
  of_finished m q r finished.Already does late = (late refl).of

  -- as a hub is made
  pub taken_none : (set : Settings) (p : BoardPass) → IsPassOf hub p → by_of p ≡ 0 → OnlyFirstAccepts hub → p.next ≡ 1 → settings_of hub ≡ set → p.seen ≡ [] → HasTaken hub p set []
  taken_none set p of caller only next same none = record {
    of = of;
    caller = caller;
    only = only;
    next = next;
    ease = subst (λ (h : List Event). AtEase (state_of hub h) 0) (sym none) (record { closed = no_view (callers_of hub) 0; hands = λ r taken. let some = taken.0.0.0 in let few = taken.0.0.1 in omega (arith, some, few) });
    settings = same;
    accepts = ap accepted none;
  }

  module _ (set : Settings) (changes : List Change) (p : BoardPass) (is : HasTaken hub p set changes) where
    -- the hub may make as many further callers as there are but the first
    pub room_left : p.room + 1 ≡ callers_of hub
    room_left = let all = is.of.of.room (subst (λ (n : ℕ). 0 < n) (sym is.next) (omega arith)) in omega (arith, all, is.next)

    pub none_other : (c : ℕ) → 1 ≤ c → own c p.seen ≡ []
    none_other c some = is.of.of.unmade (subst (λ (n : ℕ). 0 < n) (sym is.next) (omega arith)) c (subst (λ (n : ℕ). n ≤ c) (sym is.next) some)

    module _ (q : BoardPass) (of : IsPassOf hub q) (callers : q.callers ≡ p.callers) (next : q.next ≡ p.next) (es : List Event) (grows : Grows ⊥ Never 0 p.seen q.seen es) where
      accepted_grown : accepted q.seen ≡ changes ++ accepted es
      accepted_grown =
          let all : AllByRecursion IsOfFirst (p.seen ++ grows.more) = subst (AllByRecursion IsOfFirst) grows.after_is (of.of.law.accepts is.only) in
          ap accepted grows.after_is
          ∙ (accepted-append p.seen grows.more ∙ ap₂ (λ (a b : List Change). a ++ b) is.accepts (accepted_own grows.more (right_of p.seen grows.more all) ∙ ap accepted grows.own_is))

      -- its own events accepted these changes, opened no view, and left nothing in its hand
      pub taken_grown : AllByRecursion KeepsView es → ((k : ℕ) → IsUndone (state_of hub q.seen) k → fold (holder_after k) (holder_in k (own 0 p.seen)) es ≡ Some 0 → holder_in k (own 0 p.seen) ≡ Some 0)
          → HasTaken hub q set (changes ++ accepted es)
      taken_grown keeps kept = record {
        of = of;
        caller = ap (λ (cs : List ℕ). slice_index cs 0) callers ∙ is.caller;
        only = is.only;
        next = next ∙ is.next;
        ease = eases (settings_of hub) (callers_of hub) ⊥ Never 0 p.seen q.seen es grows (lawful_seen q of) keeps kept is.ease;
        settings = is.settings;
        accepts = accepted_grown;
      }

      -- they accepted nothing
      pub still_grown : accepted es ≡ [] → AllByRecursion KeepsView es → ((k : ℕ) → IsUndone (state_of hub q.seen) k → fold (holder_after k) (holder_in k (own 0 p.seen)) es ≡ Some 0 → holder_in k (own 0 p.seen) ≡ Some 0)
          → HasTaken hub q set changes
      still_grown none keeps kept =
          subst (HasTaken hub q set) (ap (λ (cs : List Change). changes ++ cs) none ∙ append-nil changes) (taken_grown keeps kept)

    -- a call without an event
    pub taken_waited : (q : BoardPass) (Says : List Event → Type 0) → Calls hub p q [] Says → HasTaken hub q set changes
    taken_waited q Says call = still_grown q call.of call.callers call.next [] (waited p q 0 Says is.caller call) refl tt (λ k undone held. held)

    -- a question
    pub taken_asked : (q : BoardPass) (Says : List Event → Type 0) → Calls hub p q (Ask (by_of p) ∷ []) Says → HasTaken hub q set changes
    taken_asked q Says call =
        let mine = subst (λ (c : ℕ). Calls hub p q (Ask c ∷ []) Says) is.caller call in
        still_grown q call.of call.callers call.next (Ask 0 ∷ []) (grown p q 0 (Ask 0) Says is.caller refl mine) refl (tt, tt) (λ k undone held. held)

    -- an acceptance
    pub taken_accepted : (q : BoardPass) (change : Change) (Says : List Event → Type 0) → Calls hub p q (Accept (by_of p) change ∷ []) Says → HasTaken hub q set (changes ++ change ∷ [])
    taken_accepted q change Says call =
        let mine = subst (λ (c : ℕ). Calls hub p q (Accept c change ∷ []) Says) is.caller call in
        taken_grown q call.of call.callers call.next (Accept 0 change ∷ []) (grown p q 0 (Accept 0 change) Says is.caller refl mine) (tt, tt) (λ k undone held. held)

    -- the work of a change that was taken: it is done then, by this caller or before
    module _ (m q : BoardPass) (r : ℕ) (Says : List Event → Type 0) (took : Calls hub p m (Took (by_of p) r ∷ []) Says) where
      caller_then : by_of m ≡ 0
      caller_then = ap (λ (cs : List ℕ). slice_index cs 0) took.callers ∙ is.caller

      took_grows : Grows ⊥ Never 0 p.seen m.seen (Took 0 r ∷ [])
      took_grows = grown p m 0 (Took 0 r) Says is.caller refl (subst (λ (c : ℕ). Calls hub p m (Took c r ∷ []) Says) is.caller took)

      pub taken_done : Calls hub m q (Done (by_of m) r ∷ []) (λ mid. IsUndone (state_of hub mid) r) → HasTaken hub q set changes
      taken_done call =
          let mine = subst (λ (c : ℕ). Calls hub m q (Done c r ∷ []) (λ mid. IsUndone (state_of hub mid) r)) caller_then call in
          let all = grows_then ⊥ 0 Never p.seen m.seen q.seen (Took 0 r ∷ []) (Done 0 r ∷ []) took_grows (grown m q 0 (Done 0 r) (λ mid. IsUndone (state_of hub mid) r) caller_then refl mine) in
          let done : IsDone (state_of hub q.seen) r = subst (λ (g : List Event). IsDone (state_of hub g) r) (sym mine.seen) (done_then (callers_of hub) 0 mine.mid r mine.says) in
          still_grown q call.of (call.callers ∙ took.callers) (call.next ∙ took.next) (Took 0 r ∷ Done 0 r ∷ []) all refl (tt, (tt, tt))
          (λ k undone held. took_done (state_of hub q.seen) 0 r k (holder_in k (own 0 p.seen)) done undone held)

      pub taken_late : Calls hub m q [] (λ mid. IsDone (state_of hub mid) r) → HasTaken hub q set changes
      taken_late call =
          let all = grows_then ⊥ 0 Never p.seen m.seen q.seen (Took 0 r ∷ []) [] took_grows (waited m q 0 (λ mid. IsDone (state_of hub mid) r) caller_then call) in
          let done : IsDone (state_of hub q.seen) r = subst (λ (g : List Event). IsDone (state_of hub g) r) (sym (call.seen ∙ append-nil call.mid)) call.says in
          still_grown q call.of (call.callers ∙ took.callers) (call.next ∙ took.next) (Took 0 r ∷ []) all refl (tt, tt)
          (λ k undone held. took_done (state_of hub q.seen) 0 r k (holder_in k (own 0 p.seen)) done undone held)

      -- by what the end of the work answers
      pub taken_finished : (result : Finished) → (result ≡ finished.Done → Does hub m q r) → (result ≡ finished.Already → FindsDone hub m q r) → HasTaken hub q set changes
      taken_finished finished.Done does late = taken_done (does refl)
      taken_finished finished.Already does late = taken_late (late refl)
