-- What each step of a core comes to, and what it counts.
use Rattle.std.specs.Prelude.{◌≡◌, ◌⊎◌, ℕ, ◌+◌, ◌%◌, ◌==◌, ◌<◌, ◌≤◌, List, length, map, count_by, All, Some, None, IsNone, IsSome}
use Rattle.std.specs.Arc.{arc_value}
use Rattle.cq_base.specs.declared.lang.Lang.{Lang}
use Rattle.cq_base.specs.declared.settings.Settings.{Settings}
use Rattle.cq_base.specs.declared.change.Change.{Change}
use Rattle.cq_base.specs.declared.change.Change.TheVariants as change
use Rattle.cq_base.specs.Changes.{IsSoundChange}
use Rattle.cq_history.specs.declared.event.Event.TheVariants as event
use Rattle.cq_history.specs.Changes.{change_at, IsWorkFor}
use Rattle.cq_history.specs.State.{changes_in, first_free, ready, view_of, slot_of, IsAccepted, IsUndone, IsTakenBy}
use Rattle.cq_history.specs.Core as history
use Rattle.cq_history.specs.Lawful.{IsBelow}
use Rattle.cq_shard.specs.declared.indexed.Indexed.{Ghosts}
use Rattle.cq_shard.specs.Shard.{HasWindow}
use Rattle.cq_board.specs.Answers.{refusal_of}
use Rattle.cq_board.specs.declared.answers.Refused.{Refused}
use Rattle.cq_core.specs.Cores.{CoreState, StandsFor, IsCaller, IsShard, applied_of, applied_at}
use Rattle.cq_core.specs.declared.step.Step.{Step}
use Rattle.cq_core.specs.declared.step.Step.TheVariants.{Accept, Ask, Took, Back, Done, Apply, Publish, Open, Shut, Floor, Sweep}
use Rattle.cq_core.specs.declared.step.Outcome.{Outcome}
use Rattle.cq_core.specs.declared.step.Outcome.TheVariants as outcome

-- for whichever core it stood, it stands for that one after the step, which it might take
pub record Takes (IsWindow : Lang → List ℕ → ℕ → ℕ → Type 0) (step : history.Step) (old new : CoreState) : Type 0 where
  pub may : (k : history.Core) → StandsFor IsWindow k old → history.MayStep old.board.settings (length old.board.state.views) k step
  pub core : (k : history.Core) → StandsFor IsWindow k old → StandsFor IsWindow (history.stepped k step) new

-- a version may be published: it is above the last one, every change up to it is done, and every shard has applied it
abbrev pub MayPublish : CoreState → ℕ → Type 0
MayPublish c version = (c.board.state.published < version) × (version ≤ ready c.board.state) × All (λ a. version ≤ a) (map applied_of c.shards)

-- versions below one may be given up: it is above the last floor, and at most the last published version and each open one
abbrev pub MaySetFloor : CoreState → ℕ → Type 0
MaySetFloor c version = (c.board.state.floor < version) × (version ≤ c.board.state.published) × All (IsBelow version) c.board.state.views

-- the outcome if the step is done, and the one if it is not, each exactly if it is so
abbrev pub Done-if : Type 0 → Outcome → Outcome → Outcome → Type 0
Done-if May done not_done o = (May × (o ≡ done)) ⊎ ((May → ⊥) × (o ≡ not_done))

module _ {W : Type 0} where
  -- the step names a caller and a shard that are there
  abbrev pub IsNamed : CoreState → Step W → Type 0
  IsNamed c (Accept by change) = IsCaller c by
  IsNamed c (Ask by) = IsCaller c by
  IsNamed c (Took by) = IsCaller c by
  IsNamed c (Back by change) = IsCaller c by
  IsNamed c (Done by change work) = IsCaller c by
  IsNamed c (Apply shard) = IsShard c shard
  IsNamed c (Publish version) = Unit {0}
  IsNamed c (Open by) = IsCaller c by
  IsNamed c (Shut by) = IsCaller c by
  IsNamed c (Floor version) = Unit {0}
  IsNamed c (Sweep shard) = IsShard c shard

  -- a change that it brings is sound
  abbrev pub IsSoundStep : Step W → Type 0
  IsSoundStep (Accept by change) = IsSoundChange change
  IsSoundStep (Ask by) = Unit {0}
  IsSoundStep (Took by) = Unit {0}
  IsSoundStep (Back by change) = Unit {0}
  IsSoundStep (Done by change work) = Unit {0}
  IsSoundStep (Apply shard) = Unit {0}
  IsSoundStep (Publish version) = Unit {0}
  IsSoundStep (Open by) = Unit {0}
  IsSoundStep (Shut by) = Unit {0}
  IsSoundStep (Floor version) = Unit {0}
  IsSoundStep (Sweep shard) = Unit {0}

  -- the work of a put that is not done is that of its text
  abbrev pub HasWork : (Lang → List ℕ → W → Type 0) → CoreState → Step W → Type 0
  HasWork IsWork c (Accept by change) = Unit {0}
  HasWork IsWork c (Ask by) = Unit {0}
  HasWork IsWork c (Took by) = Unit {0}
  HasWork IsWork c (Back by change) = Unit {0}
  HasWork IsWork c (Done by change work) = IsUndone c.board.state change → IsWorkFor IsWork (slot_of c.board.state change).change (arc_value work)
  HasWork IsWork c (Apply shard) = Unit {0}
  HasWork IsWork c (Publish version) = Unit {0}
  HasWork IsWork c (Open by) = Unit {0}
  HasWork IsWork c (Shut by) = Unit {0}
  HasWork IsWork c (Floor version) = Unit {0}
  HasWork IsWork c (Sweep shard) = Unit {0}

  -- it is so under the settings of the core
  abbrev pub BringsItsWork : (Settings → Lang → List ℕ → W → Type 0) → CoreState → Step W → Type 0
  BringsItsWork IsWorkOf c step = HasWork (IsWorkOf c.board.settings) c step

  -- what the step is to the history
  abbrev pub step_of : CoreState → Step W → history.Step
  step_of c (Accept by change) = history.Step.Adds (event.Accept by change)
  step_of c (Ask by) = history.Step.Adds (event.Ask by)
  step_of c (Took by) = history.Step.Adds (event.Took by (first_free c.board.state))
  step_of c (Back by change) = history.Step.Adds (event.Back by change)
  step_of c (Done by change work) = history.Step.Adds (event.Done by change)
  step_of c (Apply shard) = history.Step.Applies shard
  step_of c (Publish version) = history.Step.Adds (event.Publish version)
  step_of c (Open by) = history.Step.Adds (event.Open by c.board.state.published)
  step_of c (Shut by) = history.Step.Adds (event.Shut by)
  step_of c (Floor version) = history.Step.Adds (event.Floor version)
  step_of c (Sweep shard) = history.Step.Sweeps shard c.board.state.floor

  abbrev pub IsOutcome : CoreState → CoreState → Step W → Outcome → Type 0
  IsOutcome old new (Accept by change) o =
      ((refusal_of old.board.settings old.board.state change ≡ None) × (o ≡ outcome.Value (length new.board.state.slots))) ⊎ ((cause : Refused) × (refusal_of old.board.settings old.board.state change ≡ Some cause) × (o ≡ outcome.Refused cause))
  IsOutcome old new (Ask by) o = o ≡ outcome.Value (length old.board.state.slots)
  IsOutcome old new (Took by) o = Done-if (IsAccepted old.board.state (first_free old.board.state)) (outcome.Value (first_free old.board.state)) outcome.NoJob o
  IsOutcome old new (Back by change) o = Done-if (IsTakenBy old.board.state change by) outcome.Ok outcome.No o
  IsOutcome old new (Done by change work) o = Done-if (IsUndone old.board.state change) outcome.Ok outcome.No o
  IsOutcome old new (Apply shard) o = Done-if (applied_at old shard + 1 ≤ ready old.board.state) (outcome.Value (applied_at old shard + 1)) outcome.No o
  IsOutcome old new (Publish version) o = Done-if (MayPublish old version) outcome.Ok outcome.No o
  IsOutcome old new (Open by) o = Done-if (IsNone (view_of old.board.state by)) (outcome.Value old.board.state.published) outcome.No o
  IsOutcome old new (Shut by) o = Done-if (IsSome (view_of old.board.state by)) outcome.Ok outcome.No o
  IsOutcome old new (Floor version) o = Done-if (MaySetFloor old version) outcome.Ok outcome.No o
  IsOutcome old new (Sweep shard) o = o ≡ outcome.Ok

-- the step was done
abbrev pub IsDone : Outcome → Type 0
IsDone outcome.Ok = Unit {0}
IsDone (outcome.Value n) = Unit {0}
IsDone outcome.NoJob = ⊥
IsDone (outcome.Refused cause) = ⊥
IsDone outcome.No = ⊥

-- the core has taken the step, or is as it was; its settings and how many callers it has stay
pub record IsStepped (IsWindow : Lang → List ℕ → ℕ → ℕ → Type 0) (step : history.Step) (old new : CoreState) (o : Outcome) : Type 0 where
  pub settings : new.board.settings ≡ old.board.settings
  pub callers : length new.board.state.views ≡ length old.board.state.views
  pub done : IsDone o → Takes IsWindow step old new
  pub not_done : (IsDone o → ⊥) → new ≡ old

module _ {W : Type 0} (keys_in : W → List ℕ) (IsWorkOf : Settings → Lang → List ℕ → W → Type 0) where
  -- the core has taken this step, or is as it was
  abbrev pub DoesStep : CoreState → CoreState → Step W → Outcome → Type 0
  DoesStep old new step o = IsStepped (HasWindow keys_in IsWorkOf old.board.settings) (step_of old step) old new o

  -- the change has so many windows whose keys are the shard's
  abbrev pub HasSoMany : Settings → ℕ → Change → ℕ → Type 0
  HasSoMany set shard (change.Put project path lang text) n = (work : W) × IsWorkOf set lang text work × (n ≡ count_by (λ key. key % set.shards == shard) (keys_in work))
  HasSoMany set shard (change.Drop project path) n = n ≡ 0
  HasSoMany set shard (change.Gate project conditions) n = n ≡ 0

  -- so many of the next change that the shard applies
  pub record HasNext (old : CoreState) (shard n : ℕ) : Type 0 where
    pub next : Change
    pub is_next : change_at (changes_in old.board.state) (applied_at old shard + 1) ≡ Some next
    pub so_many : HasSoMany old.board.settings shard next n

  -- Only an application that is done counts steps: one for each window of its change whose key is the shard's.
  abbrev pub Counts : CoreState → Step W → Outcome → ℕ → ℕ → Type 0
  Counts old (Accept by c) o before now = now ≡ before
  Counts old (Ask by) o before now = now ≡ before
  Counts old (Took by) o before now = now ≡ before
  Counts old (Back by c) o before now = now ≡ before
  Counts old (Done by c work) o before now = now ≡ before
  Counts old (Apply shard) o before now = (IsDone o → (n : ℕ) × HasNext old shard n × (now ≡ before + n)) × ((IsDone o → ⊥) → now ≡ before)
  Counts old (Publish version) o before now = now ≡ before
  Counts old (Open by) o before now = now ≡ before
  Counts old (Shut by) o before now = now ≡ before
  Counts old (Floor version) o before now = now ≡ before
  Counts old (Sweep shard) o before now = now ≡ before

  -- one that is refused memory may have counted some of them
  abbrev pub CountsSome : CoreState → Step W → ℕ → ℕ → Type 0
  CountsSome old (Accept by c) before now = now ≡ before
  CountsSome old (Ask by) before now = now ≡ before
  CountsSome old (Took by) before now = now ≡ before
  CountsSome old (Back by c) before now = now ≡ before
  CountsSome old (Done by c work) before now = now ≡ before
  CountsSome old (Apply shard) before now = (now ≡ before) ⊎ ((n : ℕ) × HasNext old shard n × (now ≤ before + n))
  CountsSome old (Publish version) before now = now ≡ before
  CountsSome old (Open by) before now = now ≡ before
  CountsSome old (Shut by) before now = now ≡ before
  CountsSome old (Floor version) before now = now ≡ before
  CountsSome old (Sweep shard) before now = now ≡ before

-- the same of a kind of work
module _ {W : Type 0} (of : Ghosts W) where
  abbrev pub Does : CoreState → CoreState → Step W → Outcome → Type 0
  Does old new step o = DoesStep of.keys_in of.IsWorkOf old new step o

  abbrev pub CountsFor : CoreState → Step W → ℕ → ℕ → Outcome → Type 0
  CountsFor old step before now o = Counts of.keys_in of.IsWorkOf old step o before now

  abbrev pub CountsSomeFor : CoreState → Step W → ℕ → ℕ → Type 0
  CountsSomeFor old step before now = CountsSome of.keys_in of.IsWorkOf old step before now

  -- of the shard that applies the next change
  abbrev pub CountsNext : CoreState → ℕ → ℕ → ℕ → Outcome → Type 0
  CountsNext old shard before now o = CountsFor old (Apply shard) before now o

  abbrev pub CountsSomeNext : CoreState → ℕ → ℕ → ℕ → Type 0
  CountsSomeNext old shard before now = CountsSomeFor old (Apply shard) before now
