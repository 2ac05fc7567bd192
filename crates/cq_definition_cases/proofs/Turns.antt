-- Turns of a worker that are none, and what a hub may not answer.
use Rattle.std.specs.Prelude.{◌≡◌, ◌⊎◌, ℕ, ◌≤◌, false, List, [], ◌∷◌, ◌++◌, length, flat_map, None, Some}
use Rattle.std.specs.List.{AllByRecursion}
use Rattle.std.proofs.Common.{arith, ap, refl, ◌∙◌, inl, inr}
use Rattle.cq_definition_cases.proofs.Different.{is_false}
use Rattle.cq_definition_cases.proofs.Talks.{own_grown}
use Rattle.cq_base.specs.declared.change.Change.{Change}
use Rattle.cq_base.specs.declared.change.Change.TheVariants.{Put}
use Rattle.cq_base.specs.declared.lang.Lang.TheVariants.{Any}
use Rattle.cq_base.specs.declared.settings.Settings.{Settings}
use Rattle.cq_history.specs.declared.event.Event.{Event}
use Rattle.cq_history.specs.declared.event.Event.TheVariants as event
use Rattle.cq_history.specs.Lawful.{Permits}
use Rattle.cq_history.specs.State.{State, own}
use Rattle.cq_history.proofs.Prefixes.{own-append}
use Rattle.cq_hub.specs.Hubs.{IsPublication, RaisesOnce}
use Rattle.cq_hub.specs.Says.{IsAcceptedAs, IsJobFor}
use Rattle.cq_serve.specs.Labours.{IsOfTurn, Labour}
use Rattle.cq_serve.specs.Turns.{AtEase, IsTurn, Passes}
use Rattle.cq_serve.specs.declared.answers.Turn.TheVariants as turn

-- ---- a worker's turn

-- what the caller itself did, from nothing on
all_of : (alone : Type 0) (callers c : ℕ) (before behind after : List Event) (Says : State → Type 0) → Passes alone callers c [] before Says behind after → own c after ≡ before ++ behind
all_of alone callers c before behind after Says p =
    ap (own c) p.rest.after_is ∙ (own-append c p.mid p.rest.more ∙ (ap (λ (es : List Event). es ++ own c p.rest.more) (ap (own c) p.first.after_is ∙ p.first.own_is) ∙ ap (λ (es : List Event). before ++ es) p.rest.own_is))

-- caller 0 took change 2, and finished change 1
pub the_change_that_was_taken_is_finished : (alone : Type 0) (callers : ℕ) → IsTurn alone callers 0 [] (turn.Worked 2) (event.Took 0 2 ∷ event.Done 0 1 ∷ event.Ask 0 ∷ []) → ⊥
the_change_that_was_taken_is_finished alone callers passes =
    let number : 1 ≡ 2 = ap second (all_of alone callers 0 (event.Took 0 2 ∷ []) (event.Done 0 2 ∷ event.Ask 0 ∷ []) (event.Took 0 2 ∷ event.Done 0 1 ∷ event.Ask 0 ∷ []) _ passes) in omega (arith, number)
  where
    done : Event → ℕ
    done (event.Done by r) = r
    done _ = 0

    second : List Event → ℕ
    second (first ∷ e ∷ rest) = done e
    second _ = 0

-- caller 0 has change 1, which is not done
abbrev one_taken : State
one_taken = record { slots = record { change = Put (0 ∷ []) (1 ∷ []) Any []; finished = false; holder = Some 0 } ∷ []; published = 0; floor = 0; views = None ∷ [] }

pub who_has_a_change_is_not_at_ease : AtEase one_taken 0 → ⊥
who_has_a_change_is_not_at_ease ease = ease.hands 1 (((omega arith, omega arith), refl), refl)

pub a_question_alone_is_no_turn : (c : ℕ) → IsOfTurn c (event.Ask c ∷ []) → ⊥
a_question_alone_is_no_turn c (r, inl worked) = let three : 1 ≡ 3 = ap (λ (es : List Event). length es) worked in omega (arith, three)
a_question_alone_is_no_turn c (r, inr (inl back)) = let three : 1 ≡ 3 = ap (λ (es : List Event). length es) back in omega (arith, three)
a_question_alone_is_no_turn c (r, inr (inr late)) = let two : 1 ≡ 2 = ap (λ (es : List Event). length es) late in omega (arith, two)

abbrev takes : List Event → ℕ
takes (event.Took by r ∷ es) = 1
takes _ = 0

-- a turn begins with the taking of a change
begins_taking : (c : ℕ) (events : List Event) → IsOfTurn c events → (rest : List Event) → takes (events ++ rest) ≡ 1
begins_taking c events (r, inl worked) rest = ap (λ (es : List Event). takes (es ++ rest)) worked
begins_taking c events (r, inr (inl back)) rest = ap (λ (es : List Event). takes (es ++ rest)) back
begins_taking c events (r, inr (inr late)) rest = ap (λ (es : List Event). takes (es ++ rest)) late

of_turns : (turns : List (List Event)) → AllByRecursion (IsOfTurn 0) turns → event.Ask 0 ∷ [] ≡ flat_map (λ (events : List Event). events) turns → ⊥
of_turns [] each e = let none : 1 ≡ 0 = ap (λ (es : List Event). length es) e in omega (arith, none)
of_turns (events ∷ turns) each e =
    let taking : 0 ≡ 1 = ap takes e ∙ begins_taking 0 events each.0 (flat_map (λ (es : List Event). es) turns) in omega (arith, taking)

pub a_worker_asks_only_in_its_turns : (alone : Type 0) → Labour alone 0 [] (event.Ask 0 ∷ []) → ⊥
a_worker_asks_only_in_its_turns alone labour =
    of_turns labour.turns labour.each (own_grown alone IsPublication [] (event.Ask 0 ∷ []) (flat_map (λ (es : List Event). es) labour.turns) labour.grows)

-- ---- a hub

-- a pass is the history that it stands for
abbrev is_history : Unit {0} → List Event → ℕ → List Event → Type 0
is_history hub pass c h = h ≡ pass

pub a_sweep_raises_the_floor_once : RaisesOnce is_history (Unit {0}) tt [] (event.Floor 1 ∷ event.Floor 2 ∷ []) → ⊥
a_sweep_raises_the_floor_once once = of (once tt 0 [] refl)
  where
    of : ([] ≡ event.Floor 1 ∷ event.Floor 2 ∷ []) ⊎ ((f : ℕ) × (([] ++ event.Floor f ∷ []) ≡ event.Floor 1 ∷ event.Floor 2 ∷ [])) → ⊥
    of (inl same) = let none : 0 ≡ 2 = ap (λ (es : List Event). length es) same in omega (arith, none)
    of (inr (f, more)) = let one : 1 ≡ 2 = ap (λ (es : List Event). length es) more in omega (arith, one)

pub an_accepted_change_has_the_next_number : (set : Settings) (callers : ℕ) (change : Change) → IsAcceptedAs set callers change 2 [] → ⊥
an_accepted_change_has_the_next_number set callers change is = let first = is.1 in omega (arith, first)

-- no version is published
pub a_floor_is_no_higher_than_what_is_published : (set : Settings) → Permits set one_taken (event.Floor 1) → ⊥
a_floor_is_no_higher_than_what_is_published set may = let low : 1 ≤ 0 = may.1 in omega (arith, low)

pub a_change_that_is_not_done_has_its_job : IsJobFor one_taken 1 None → ⊥
a_change_that_is_not_done_has_its_job done = is_false done.1
