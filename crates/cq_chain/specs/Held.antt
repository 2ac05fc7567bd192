-- What the cells hold after a history: the board that it leaves, and shards that are right for it.
use Rattle.std.specs.Prelude.{◌≡◌, ℕ, ◌≤◌, true, List, length, All}
use Rattle.std.specs.List.{AllByRecursion}
use Rattle.cq_base.specs.declared.lang.Lang.{Lang}
use Rattle.cq_base.specs.declared.settings.Settings.{Settings}
use Rattle.cq_base.specs.Changes.{IsSoundChange}
use Rattle.cq_history.specs.declared.event.Event.{Event}
use Rattle.cq_history.specs.declared.event.Event.TheVariants.{Accept, Ask, Took, Back, Done, Publish, Open, Shut, Floor}
use Rattle.cq_history.specs.State.{State, state, accepted}
use Rattle.cq_history.specs.Lawful.{Lawful}
use Rattle.cq_history.specs.Core.{IsReached}
use Rattle.cq_shard.specs.Shard as shard
use Rattle.cq_shard.specs.Shard.{Contents, HasWindow}
use Rattle.cq_board.specs.Stands.{BoardState, StandsFor}
use Rattle.cq_chain.specs.declared.about.About.{About}

abbrev pub callers_of : About → ℕ
callers_of about = about.callers

-- the state that the history leaves
abbrev pub state_in : About → List Event → State
state_in about log = state about.callers log

-- if it is an acceptance, it is the first caller's
abbrev pub IsOfFirst : Event → Type 0
IsOfFirst (Accept by change) = by ≡ 0
IsOfFirst (Ask by) = Unit {0}
IsOfFirst (Took by r) = Unit {0}
IsOfFirst (Back by r) = Unit {0}
IsOfFirst (Done by r) = Unit {0}
IsOfFirst (Publish p) = Unit {0}
IsOfFirst (Open by p) = Unit {0}
IsOfFirst (Shut by) = Unit {0}
IsOfFirst (Floor f) = Unit {0}

-- if only the first caller accepts, each acceptance is its
abbrev pub AcceptedByFirst : About → List Event → Type 0
AcceptedByFirst about log = about.first_only ≡ true → AllByRecursion IsOfFirst log

-- each event is allowed, each accepted change is sound, and was accepted by a caller who may
pub record IsLawful (about : About) (log : List Event) : Type 0 where
  pub lawful : Lawful about.settings about.callers log
  pub sound : All IsSoundChange (accepted log)
  pub accepts : AcceptedByFirst about log

-- how many changes each shard must have applied before the event: those that it publishes
abbrev pub asks : Event → ℕ
asks (Accept by change) = 0
asks (Ask by) = 0
asks (Took by r) = 0
asks (Back by r) = 0
asks (Done by r) = 0
asks (Publish p) = p
asks (Open by p) = 0
asks (Shut by) = 0
asks (Floor f) = 0

-- the board is what the history leaves, with the settings and the callers that the cells were made with
pub record IsBoard (about : About) (log : List Event) (b : BoardState) : Type 0 where
  pub stands : StandsFor log b
  pub settings : b.settings ≡ about.settings
  pub callers : length b.state.views ≡ about.callers

-- It is the shard of this number, and holds what it should of the accepted changes. It has applied what is published and
-- nothing that is not ready, and was swept no further than the floor.
pub record IsShardOf (IsWindow : Lang → List ℕ → ℕ → ℕ → Type 0) (about : About) (log : List Event) (number : ℕ) (x : Contents) : Type 0 where
  pub stands : shard.StandsFor IsWindow (accepted log) x
  pub reached : IsReached (state_in about log) x.applied
  pub swept : x.floor ≤ (state_in about log).floor
  pub number_is : x.shard ≡ number
  pub shards : x.shards ≡ about.settings.shards

-- it is, and this is how many changes it has applied
abbrev pub IsShardAt : {W : Type 0} → (W → List ℕ) → (Settings → Lang → List ℕ → W → Type 0) → About → List Event → ℕ → ℕ → Contents → Type 0
IsShardAt keys_in IsWorkOf about log number applied x = (applied ≡ x.applied) × IsShardOf (HasWindow keys_in IsWorkOf about.settings) about log number x
