-- A history with what each shard has applied of it and has been swept to, and the steps of all of them.
use Rattle.std.specs.Prelude.{ℕ, ◌+◌, ◌<◌, ◌≤◌, List, [], ◌∷◌, ◌++◌, length, replicate, All, slice_index, slice_set}
use Rattle.cq_base.specs.declared.settings.Settings.{Settings}
use Rattle.cq_history.specs.declared.event.Event.{Event}
use Rattle.cq_history.specs.declared.event.Event.TheVariants.{Accept, Ask, Took, Back, Done, Publish, Open, Shut, Floor}
use Rattle.cq_history.specs.State.{State, ready, state}
use Rattle.cq_history.specs.Lawful.{Allowed, Lawful}

pub record Core : Type 0 where
  pub history : List Event
  pub applied : List ℕ
  pub floors : List ℕ

abbrev pub core_state : ℕ → Core → State
core_state callers k = state callers k.history

-- what a shard may have applied, and what it may have been swept to
abbrev pub IsReached : State → ℕ → Type 0
IsReached s a = (s.published ≤ a) × (a ≤ ready s)

pub record IsSound (set : Settings) (callers : ℕ) (k : Core) : Type 0 where
  pub lawful : Lawful set callers k.history
  pub applied : All (IsReached (state callers k.history)) k.applied
  pub floors : All (λ f. f ≤ (state callers k.history).floor) k.floors

pub data Step : Type 0 where
  Adds : (e : Event) → Step
  Applies : (shard : ℕ) → Step
  Sweeps : (shard to : ℕ) → Step

-- a version is published only when each shard has applied it
abbrev pub IsAppliedFor : List ℕ → Event → Type 0
IsAppliedFor applied (Accept by change) = Unit {0}
IsAppliedFor applied (Ask by) = Unit {0}
IsAppliedFor applied (Took by r) = Unit {0}
IsAppliedFor applied (Back by r) = Unit {0}
IsAppliedFor applied (Done by r) = Unit {0}
IsAppliedFor applied (Publish p) = All (λ a. p ≤ a) applied
IsAppliedFor applied (Open by p) = Unit {0}
IsAppliedFor applied (Shut by) = Unit {0}
IsAppliedFor applied (Floor f) = Unit {0}

abbrev pub MayStep : Settings → ℕ → Core → Step → Type 0
MayStep set callers k (Adds e) = Allowed set (state callers k.history) e × IsAppliedFor k.applied e
MayStep set callers k (Applies shard) = (shard < length k.applied) × (slice_index k.applied shard + 1 ≤ ready (state callers k.history))
MayStep set callers k (Sweeps shard to) = (slice_index k.floors shard ≤ to) × (to ≤ (state callers k.history).floor)

abbrev pub stepped : Core → Step → Core
stepped k (Adds e) = record { history = k.history ++ e ∷ []; applied = k.applied; floors = k.floors }
stepped k (Applies shard) = record { history = k.history; applied = slice_set k.applied shard (slice_index k.applied shard + 1); floors = k.floors }
stepped k (Sweeps shard to) = record { history = k.history; applied = k.applied; floors = slice_set k.floors shard to }

abbrev pub first_core : ℕ → Core
first_core shards = record { history = []; applied = replicate shards 0; floors = replicate shards 0 }
