-- What a core is to its callers, and for which core of the history it stands.
use Rattle.std.specs.Prelude.{◌≡◌, ℕ, ◌<◌, ◌≤◌, List, length, map, All, slice_index_or, slice_index}
use Rattle.cq_base.specs.declared.lang.Lang.{Lang}
use Rattle.cq_base.specs.declared.settings.Settings.{Settings}
use Rattle.cq_history.specs.State.{changes_in}
use Rattle.cq_history.specs.Core as history
use Rattle.cq_shard.specs.Shard as shard
use Rattle.cq_board.specs.Stands as board

-- its board, and its shards
pub record CoreState : Type 0 where
  pub board : board.BoardState
  pub shards : List shard.Contents

abbrev pub applied_of : shard.Contents → ℕ
applied_of s = s.applied

abbrev pub floor_of : shard.Contents → ℕ
floor_of s = s.floor

-- the shards are numbered from 0, each of so many, and none is swept beyond what it applied
pub record AreNumbered (number : ℕ) (shards : List shard.Contents) : Type 0 where
  pub number_is : length shards ≡ number
  pub each : (i : ℕ) (d : shard.Contents) → i < length shards → ((slice_index_or shards i d).shard ≡ i) × ((slice_index_or shards i d).shards ≡ number)
  pub passed : All (λ s. s.floor ≤ s.applied) shards

-- shards that have applied nothing
pub record AreFresh (number : ℕ) (shards : List shard.Contents) : Type 0 where
  pub number_is : length shards ≡ number
  pub each : (i : ℕ) (d : shard.Contents) → i < length shards → slice_index_or shards i d ≡ shard.fresh_shard i number

-- the core is this sound one of the history, and each shard stands for the changes
pub record StandsFor (IsWindow : Lang → List ℕ → ℕ → ℕ → Type 0) (k : history.Core) (c : CoreState) : Type 0 where
  pub past : board.StandsFor k.history c.board
  pub applied : map applied_of c.shards ≡ k.applied
  pub floors : map floor_of c.shards ≡ k.floors
  pub sound : history.IsSound c.board.settings (length c.board.state.views) k
  pub shards : All (shard.StandsFor IsWindow (changes_in c.board.state)) c.shards
  pub numbered : AreNumbered c.board.settings.shards c.shards

-- it stands for a core of the history before any step, over the windows that the settings give
abbrev pub StandsAtFirst : (Settings → Lang → List ℕ → ℕ → ℕ → Type 0) → Settings → CoreState → Type 0
StandsAtFirst window_at set c = StandsFor (window_at set) (history.first_core set.shards) c

abbrev pub IsCaller : CoreState → ℕ → Type 0
IsCaller c by = by < length c.board.state.views

abbrev pub IsShard : CoreState → ℕ → Type 0
IsShard c i = i < c.board.settings.shards

-- how far a shard has applied the changes
abbrev pub applied_at : CoreState → ℕ → ℕ
applied_at c i = slice_index (map applied_of c.shards) i
