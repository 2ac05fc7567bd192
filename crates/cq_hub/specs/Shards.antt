-- The shards beside a board: each stands for the board's changes, and is as far on as its history allows.
use Rattle.std.specs.Prelude.{◌≡◌, ◌⊎◌, ℕ, ◌<◌, ◌≤◌, List, [], length, slice_index_or}
use Rattle.cq_base.specs.declared.lang.Lang.{Lang}
use Rattle.cq_base.specs.declared.settings.Settings.{Settings}
use Rattle.cq_base.specs.declared.change.Change.{Change}
use Rattle.cq_history.specs.State.{changes_in}
use Rattle.cq_history.specs.Core.{IsReached}
use Rattle.cq_history.specs.Gone.{AreKeptPuts}
use Rattle.cq_shard.specs.Shard.{Contents, StandsFor, HasWindow, swept}
use Rattle.cq_board.specs.Stands.{BoardState}

-- Over a relation which says of a text that it has at a place a window with a key: it is the shard of this number, and has
-- what it should of the board's changes. It has applied what is published and nothing that is not ready, and was swept no
-- further than the floor.
pub record IsShardOf (IsWindow : Lang → List ℕ → ℕ → ℕ → Type 0) (b : BoardState) (number : ℕ) (c : Contents) : Type 0 where
  pub stands : StandsFor IsWindow (changes_in b.state) c
  pub reached : IsReached b.state c.applied
  pub swept : c.floor ≤ b.state.floor
  pub number_is : c.shard ≡ number
  pub shards : c.shards ≡ b.settings.shards

-- they are all the board's shards, by number
pub record AreShardsOf (IsWindow : Lang → List ℕ → ℕ → ℕ → Type 0) (b : BoardState) (shards : List Contents) : Type 0 where
  pub number_is : length shards ≡ b.settings.shards
  pub each : (i : ℕ) (d : Contents) → i < length shards → IsShardOf IsWindow b i (slice_index_or shards i d)

-- the same over the windows of a text's work under the board's settings
module _ {W : Type 0} (keys_in : W → List ℕ) (IsWorkOf : Settings → Lang → List ℕ → W → Type 0) (b : BoardState) where
  abbrev pub StandsBeside : ℕ → Contents → Type 0
  StandsBeside number c = IsShardOf (HasWindow keys_in IsWorkOf b.settings) b number c

  abbrev pub StandBeside : List Contents → Type 0
  StandBeside shards = AreShardsOf (HasWindow keys_in IsWorkOf b.settings) b shards

-- the shard stands for some changes, over the windows of their works, and of these changes a floor keeps just these puts
pub record AreKeptOf {W : Type 0} (keys_in : W → List ℕ) (IsWorkOf : Settings → Lang → List ℕ → W → Type 0) (floor : ℕ) (keep : List ℕ) (c : Contents) : Type 0 where
  pub settings : Settings
  pub changes : List Change
  pub stands : StandsFor (HasWindow keys_in IsWorkOf settings) changes c
  pub kept : AreKeptPuts changes floor keep

-- The shard was swept up to a floor but for the changes to keep, if its own was lower; else it is as it was.
abbrev pub IsSweptTo : ℕ → List ℕ → Contents → Contents → Type 0
IsSweptTo floor keep old new = ((old.floor < floor) × (new ≡ swept floor keep old)) ⊎ ((floor ≤ old.floor) × (new ≡ old))

-- shards that have applied nothing
pub record AreFresh (number : ℕ) (shards : List Contents) : Type 0 where
  pub number_is : length shards ≡ number
  pub each : (i : ℕ) (d : Contents) → i < length shards → slice_index_or shards i d ≡ record { shard = i; shards = number; applied = 0; floor = 0; puts = []; entries = [] }
