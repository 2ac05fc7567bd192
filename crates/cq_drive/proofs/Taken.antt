-- A step of the core, as a step of a script.
use Rattle.std.proofs.Common.{◌≡◌, ℕ, ◌+◌, List, [], ◌∷◌, ◌++◌, length, map, refl, sym, ap, ◌∙◌, subst, subst₂, inl, inr, length-append}
use Rattle.std.specs.Prelude.{◌≤◌, ◌<◌, All, IsNone, IsSome, slice_index, Some, None}
use Rattle.cq_base.specs.declared.change.Change.{Change}
use Rattle.cq_base.specs.declared.settings.Settings.{Settings}
use Rattle.cq_board.specs.Answers.{refusal_of}
use Rattle.cq_core.specs.Cores.{CoreState, applied_of}
use Rattle.cq_core.specs.Steps.{IsDone, IsNamed, IsSoundStep, IsStepped, IsOutcome, DoesStep, Done-if, step_of}
use Rattle.cq_core.specs.declared.step.Outcome.{Outcome}
use Rattle.cq_core.specs.declared.step.Outcome.TheVariants as core_outcome
use Rattle.cq_core.specs.declared.step.Step.{Step}
use Rattle.cq_core.specs.declared.step.Step.TheVariants as core_step
use Rattle.cq_history.proofs.Doing.{slots_number}
use Rattle.cq_history.proofs.Prefixes.{accepted-append}
use Rattle.cq_history.specs.Core as history
use Rattle.cq_history.specs.Lawful.{IsBelow}
use Rattle.cq_history.specs.State.{State, state, accepted, first_free, ready, view_of, IsAccepted, IsTakenBy, IsUndone}
use Rattle.cq_history.specs.declared.event.Event.TheVariants as event
use Rattle.cq_drive.specs.declared.outcome.ScriptOutcome.TheVariants as outcome
use Rattle.cq_shard.specs.Shard.{HasWindow}
use Rattle.cq_drive.specs.Sound.{IsSoundStep as IsSound}
use Rattle.cq_drive.specs.declared.step.ScriptStep.TheVariants as script
use Rattle.cq_work.specs.Work.{IsWorkOf}
use Rattle.cq_work.specs.declared.work.Work.{Work}
use Rattle.cq_drive.specs.Cores.{IsDriven, keys_of, Stands, Leads, Led, StepLed, told, script_step}
use Rattle.cq_drive.specs.Script.{now, callers, Steps, StepsWhere, StepComesTo}

-- the caller and the shard of a step that was read are there
pub is_named : {W : Type 0} (L : Type 0) (set : Settings) (c : CoreState) (step : Step W) → IsDriven L set c → IsSound set (script_step step) → IsNamed c step
is_named L set c (core_step.Accept by change) driven sound = subst (λ n. by < n) (sym driven.callers) sound.0
is_named L set c (core_step.Ask by) driven sound = subst (λ n. by < n) (sym driven.callers) sound
is_named L set c (core_step.Took by) driven sound = subst (λ n. by < n) (sym driven.callers) sound
is_named L set c (core_step.Back by change) driven sound = subst (λ n. by < n) (sym driven.callers) sound
is_named L set c (core_step.Done by change work) driven sound = subst (λ n. by < n) (sym driven.callers) sound
is_named L set c (core_step.Apply shard) driven sound = subst (λ (st : Settings). shard < st.shards) (sym driven.settings) sound
is_named L set c (core_step.Publish version) driven sound = tt
is_named L set c (core_step.Open by) driven sound = subst (λ n. by < n) (sym driven.callers) sound
is_named L set c (core_step.Shut by) driven sound = subst (λ n. by < n) (sym driven.callers) sound
is_named L set c (core_step.Floor version) driven sound = tt
is_named L set c (core_step.Sweep shard) driven sound = subst (λ (st : Settings). shard < st.shards) (sym driven.settings) sound

-- and so is its change
pub is_sound : {W : Type 0} (set : Settings) (step : Step W) → IsSound set (script_step step) → IsSoundStep step
is_sound set (core_step.Accept by change) sound = sound.1
is_sound set (core_step.Ask by) sound = tt
is_sound set (core_step.Took by) sound = tt
is_sound set (core_step.Back by change) sound = tt
is_sound set (core_step.Done by change work) sound = tt
is_sound set (core_step.Apply shard) sound = tt
is_sound set (core_step.Publish version) sound = tt
is_sound set (core_step.Open by) sound = tt
is_sound set (core_step.Shut by) sound = tt
is_sound set (core_step.Floor version) sound = tt
is_sound set (core_step.Sweep shard) sound = tt

module _ (L : Type 0) (set : Settings) where
  -- what it is in is what the history leaves
  pub state_is : (old : CoreState) (k : history.Core) → IsDriven L set old → Stands L set k old → old.board.state ≡ now k
  state_is old k driven stands = stands.past.is ∙ ap (λ n. state n k.history) driven.callers

  -- it did not change
  pub led_same : (old : CoreState) (Row : history.Core → history.Core → Type 0) → IsDriven L set old → ((k : history.Core) → Stands L set k old → Row k k) → Led L set old old Row
  led_same old Row driven row = record { driven = driven; leads = λ k stands. record { after = k; stands = stands; holds = row k stands } }

  -- it comes to something weaker
  pub led_weaker : (old new : CoreState) (Row To : history.Core → history.Core → Type 0) → Led L set old new Row → ((k later : history.Core) → Row k later → To k later) → Led L set old new To
  led_weaker old new Row To led to = record {
    driven = led.driven;
    leads = λ k stands. let comes = led.leads k stands in record { after = comes.after; stands = comes.stands; holds = to k comes.after comes.holds };
  }

  module _ (old new : CoreState) (o : Outcome) (driven : IsDriven L set old) where
    module _ (k : history.Core) (stands : Stands L set k old) where
      -- a step that is done where it is allowed
      pub allowed : (May : State → List ℕ → Type 0) (step : State → history.Step) (did : State → List ℕ → Outcome) (other : Outcome) → ((s : State) (a : List ℕ) → IsDone (did s a)) → (IsDone other → ⊥)
          → IsStepped (HasWindow (keys_of {L = L}) IsWorkOf set) (step old.board.state) old new o → Done-if (May old.board.state (map applied_of old.shards)) (did old.board.state (map applied_of old.shards)) other o
          → Leads L set new (λ later. StepsWhere (May (now k) k.applied) k (step (now k)) (told (did (now k) k.applied)) (told other) (told o) later)
      allowed May step did other done not_done is answers =
          subst₂ (λ (s : State) (a : List ℕ). Leads L set new (λ later. StepsWhere (May s a) k (step s) (told (did s a)) (told other) (told o) later)) (state_is old k driven stands) stands.applied (by_answer answers)
        where
          by_answer : Done-if (May old.board.state (map applied_of old.shards)) (did old.board.state (map applied_of old.shards)) other o
              → Leads L set new (λ later. StepsWhere (May old.board.state (map applied_of old.shards)) k (step old.board.state) (told (did old.board.state (map applied_of old.shards))) (told other) (told o) later)
          by_answer (inl (may, said)) = record {
            after = history.stepped k (step old.board.state);
            stands = (is.done (subst IsDone (sym said) (done old.board.state (map applied_of old.shards)))).core k stands;
            holds = inl (may, (ap told said, refl));
          }
          by_answer (inr (never, said)) = record {
            after = k;
            stands = subst (Stands L set k) (sym (is.not_done (λ d. not_done (subst IsDone said d)))) stands;
            holds = inr (never, (ap told said, refl));
          }

      counted : length old.board.state.slots ≡ length (accepted k.history)
      counted = ap (λ (s : State). length s.slots) (state_is old k driven stands) ∙ slots_number callers k.history

      -- one change more
      counted_then : (by : ℕ) (change : Change) → Stands L set (history.stepped k (history.Step.Adds (event.Accept by change))) new → length new.board.state.slots ≡ length (accepted k.history) + 1
      counted_then by change then =
          ap (λ (s : State). length s.slots) then.past.is
          ∙ slots_number (length new.board.state.views) (k.history ++ event.Accept by change ∷ [])
          ∙ ap length (accepted-append k.history (event.Accept by change ∷ []))
          ∙ length-append (accepted k.history) (change ∷ [])

      accepts : (by : ℕ) (change : Change) → IsStepped (HasWindow (keys_of {L = L}) IsWorkOf set) (history.Step.Adds (event.Accept by change)) old new o → IsOutcome {W = Work L} old new (core_step.Accept by change) o
          → Leads L set new (λ later. StepComesTo set k (script.Accept by change) (told o) later)
      accepts by change is (inl (none, said)) =
          let then = (is.done (subst IsDone (sym said) tt)).core k stands in
          record {
            after = history.stepped k (history.Step.Adds (event.Accept by change));
            stands = then;
            holds = inl (subst₂ (λ (st : Settings) (s : State). refusal_of st s change ≡ None) driven.settings (state_is old k driven stands) none, (ap told said ∙ ap (λ n. outcome.Value n) (counted_then by change then), refl));
          }
      accepts by change is (inr (cause, some, said)) = record {
        after = k;
        stands = subst (Stands L set k) (sym (is.not_done (λ d. subst IsDone said d))) stands;
        holds = inr (cause, subst₂ (λ (st : Settings) (s : State). refusal_of st s change ≡ Some cause) driven.settings (state_is old k driven stands) some, (ap told said, refl));
      }

      asks : (by : ℕ) → IsStepped (HasWindow (keys_of {L = L}) IsWorkOf set) (history.Step.Adds (event.Ask by)) old new o → o ≡ core_outcome.Value (length old.board.state.slots) → Leads L set new (λ later. StepComesTo set k (script.Ask by) (told o) later)
      asks by is said = record {
        after = history.stepped k (history.Step.Adds (event.Ask by));
        stands = (is.done (subst IsDone (sym said) tt)).core k stands;
        holds = (ap told said ∙ ap (λ n. outcome.Value n) counted, refl);
      }

      sweeps : (shard : ℕ) → IsStepped (HasWindow (keys_of {L = L}) IsWorkOf set) (history.Step.Sweeps shard old.board.state.floor) old new o → o ≡ core_outcome.Ok → Leads L set new (λ later. StepComesTo set k (script.Sweep shard) (told o) later)
      sweeps shard is said =
          subst (λ (s : State). Leads L set new (λ later. Steps k (history.Step.Sweeps shard s.floor) outcome.Done (told o) later)) (state_is old k driven stands) (record {
            after = history.stepped k (history.Step.Sweeps shard old.board.state.floor);
            stands = (is.done (subst IsDone (sym said) tt)).core k stands;
            holds = (ap told said, refl);
          })

      leads : (step : Step (Work L)) → IsStepped (HasWindow (keys_of {L = L}) IsWorkOf set) (step_of old step) old new o → IsOutcome old new step o → Leads L set new (λ later. StepComesTo set k (script_step step) (told o) later)
      leads (core_step.Accept by change) is said = accepts by change is said
      leads (core_step.Ask by) is said = asks by is said
      leads (core_step.Took by) is said = allowed (λ s a. IsAccepted s (first_free s)) (λ s. history.Step.Adds (event.Took by (first_free s))) (λ s a. core_outcome.Value (first_free s)) core_outcome.NoJob (λ s a. tt) (λ d. d) is said
      leads (core_step.Back by change) is said = allowed (λ s a. IsTakenBy s change by) (λ s. history.Step.Adds (event.Back by change)) (λ s a. core_outcome.Ok) core_outcome.No (λ s a. tt) (λ d. d) is said
      leads (core_step.Done by change work) is said = allowed (λ s a. IsUndone s change) (λ s. history.Step.Adds (event.Done by change)) (λ s a. core_outcome.Ok) core_outcome.No (λ s a. tt) (λ d. d) is said
      leads (core_step.Apply shard) is said = allowed (λ s a. slice_index a shard + 1 ≤ ready s) (λ s. history.Step.Applies shard) (λ s a. core_outcome.Value (slice_index a shard + 1)) core_outcome.No (λ s a. tt) (λ d. d) is said
      leads (core_step.Publish version) is said = allowed (λ s a. (s.published < version) × (version ≤ ready s) × All (λ n. version ≤ n) a) (λ s. history.Step.Adds (event.Publish version)) (λ s a. core_outcome.Ok) core_outcome.No (λ s a. tt) (λ d. d) is said
      leads (core_step.Open by) is said = allowed (λ s a. IsNone (view_of s by)) (λ s. history.Step.Adds (event.Open by s.published)) (λ s a. core_outcome.Value s.published) core_outcome.No (λ s a. tt) (λ d. d) is said
      leads (core_step.Shut by) is said = allowed (λ s a. IsSome (view_of s by)) (λ s. history.Step.Adds (event.Shut by)) (λ s a. core_outcome.Ok) core_outcome.No (λ s a. tt) (λ d. d) is said
      leads (core_step.Floor version) is said = allowed (λ s a. (s.floor < version) × (version ≤ s.published) × All (IsBelow version) s.views) (λ s. history.Step.Adds (event.Floor version)) (λ s a. core_outcome.Ok) core_outcome.No (λ s a. tt) (λ d. d) is said
      leads (core_step.Sweep shard) is said = sweeps shard is said

    -- the core took the step, so the script did
    pub step_led : (step : Step (Work L)) → IsOutcome old new step o → DoesStep (keys_of {L = L}) IsWorkOf old new step o → StepLed L set old new (script_step step) (told o)
    step_led step said does =
        let is = subst (λ (st : Settings). IsStepped (HasWindow (keys_of {L = L}) IsWorkOf st) (step_of old step) old new o) driven.settings does in
        record {
          driven = record {
            settings = is.settings ∙ driven.settings;
            callers = is.callers ∙ driven.callers;
            past = let then = leads driven.past.0 driven.past.1 step is said in (then.after, then.stands);
          };
          leads = λ k stands. leads k stands step is said;
        }

  -- a change that is not accepted, or is done, is not done again
  pub not_again : (old : CoreState) (by change : ℕ) → IsDriven L set old → (IsUndone old.board.state change → ⊥) → StepLed L set old old (script.Done by change) outcome.No
  not_again old by change driven never = led_same old _ driven (λ k stands. inr (subst (λ (s : State). IsUndone s change → ⊥) (state_is old k driven stands) never, (refl, refl)))
