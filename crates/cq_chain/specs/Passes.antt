-- What contracts see of a pass over a board and its shards.
use Rattle.std.specs.Prelude.{◌≡◌, ◌⊎◌, ℕ, ◌+◌, ◌^◌, ◌<◌, ◌≤◌, List, [], ◌∷◌, ◌++◌, length, slice_index_or, IfSome}
use mathlib.Core.List.{IsPrefix}
use Rattle.cq_base.specs.declared.lang.Lang.{Lang}
use Rattle.cq_base.specs.declared.settings.Settings.{Settings}
use Rattle.cq_history.specs.declared.event.Event.{Event}
use Rattle.cq_history.specs.State.{accepted, maker, own, ready}
use Rattle.cq_shard.specs.Shard.{Contents, HasWindow, StandsFor}
use Rattle.cq_board.specs.Stands.{BoardState}
use Rattle.cq_cells.specs.declared.item.Item.{Item}
use Rattle.cq_cells.specs.Callers.{Each, Differ}
use Rattle.cq_cells.specs.Passes as passes
use Rattle.cq_cells.specs.Passes.{CellsState, PassState, HasShard, by_of, least}
use Rattle.cq_chain.specs.declared.about.About.{About}
use Rattle.cq_chain.specs.Held.{state_in, AcceptedByFirst, IsLawful, IsShardOf, asks}

-- cells: the settings and the callers that they were made with
abbrev pub BoardCells : Type 0
BoardCells = CellsState About

-- a pass: its caller's number and then those of the callers that ended in it, the history that it has seen, the cell that
-- it holds, what it knows of the shards, in the first pass the next number and how many more there may be, and its count
abbrev pub BoardPass : Type 0
BoardPass = PassState (Item BoardState Contents) Event About

-- no caller with this number or a greater one has an event
abbrev pub HasNoneFrom : ℕ → List Event → Type 0
HasNoneFrom next log = (c : ℕ) → next ≤ c → own c log ≡ []

-- The pass is of these cells and has seen a lawful history; its caller is one of the board's, and its callers differ. A
-- shard that it holds is counted in 63 bits. The first pass makes the callers in order, after its own, and has seen no event
-- of one that it has not made.
pub record IsPassOf (cells : BoardCells) (p : BoardPass) : Type 0 where
  pub of : passes.IsPassOf cells p
  pub law : IsLawful cells.about p.seen
  pub caller : by_of p < cells.about.callers
  pub apart : Differ p.callers
  -- the first pass may make as many more callers as the board has
  pub room : 0 < p.next → p.next + p.room ≡ cells.about.callers
  pub few : (s : ℕ) (x : Contents) → HasShard p s x → x.applied < 2 ^ 63
  pub made : 0 < p.next → by_of p < p.next
  pub unmade : 0 < p.next → HasNoneFrom p.next p.seen

-- the history has the events of the pass's caller that the pass has seen and no other of them, and so of each caller that
-- ended in it
pub record IsOwn (p : BoardPass) (log : List Event) : Type 0 where
  pub by : own (by_of p) log ≡ own (by_of p) p.seen
  pub all : Each (λ c. own c log ≡ own c p.seen) p.callers

-- the event is that of the pass's caller or nobody's, an acceptance is by a caller who may, and each shard is known to have
-- applied what it publishes
pub record MayAdd (cells : BoardCells) (p : BoardPass) (e : Event) : Type 0 where
  pub maker : IfSome (maker e) (λ c. c ≡ by_of p)
  pub accepts : AcceptedByFirst cells.about (e ∷ [])
  pub applied : (s : ℕ) → s < cells.about.settings.shards → asks e ≤ least p s

-- what a pass finds that takes a shard: it is right after a history that begins with what the pass has seen, and in which
-- the pass's callers have no other events
pub record IsFound {W : Type 0} (keys_in : W → List ℕ) (IsWorkOf : Settings → Lang → List ℕ → W → Type 0) (about : About) (p : BoardPass) (number : ℕ) (x : Contents) : Type 0 where
  pub log : List Event
  pub begins : IsPrefix p.seen log
  pub law : IsLawful about log
  pub own : IsOwn p log
  pub is : IsShardOf (HasWindow keys_in IsWorkOf about.settings) about log number x

-- What may have become of a shard that goes back. It has applied no change, or one that is ready in what was seen, was
-- swept no further than the floor there, and after each history that begins with it holds what it should if it did before.
pub record IsStep (IsWindow : Lang → List ℕ → ℕ → ℕ → Type 0) (about : About) (seen : List Event) (old new : Contents) : Type 0 where
  pub applied : (new.applied ≡ old.applied) ⊎ ((new.applied ≡ old.applied + 1) × (new.applied ≤ ready (state_in about seen)))
  pub swept : (new.floor ≡ old.floor) ⊎ (new.floor ≤ (state_in about seen).floor)
  pub number_is : new.shard ≡ old.shard
  pub shards : new.shards ≡ old.shards
  pub stands : (later : List Event) → StandsFor IsWindow (accepted (seen ++ later)) old → StandsFor IsWindow (accepted (seen ++ later)) new

-- the pass holds the shard, of which this may have become
pub record MayLeave {W : Type 0} (keys_in : W → List ℕ) (IsWorkOf : Settings → Lang → List ℕ → W → Type 0) (about : About) (p : BoardPass) (number : ℕ) (new : Contents) : Type 0 where
  pub was : Contents
  pub hand : HasShard p number was
  pub step : IsStep (HasWindow keys_in IsWorkOf about.settings) about p.seen was new

-- all shards, by number, which have applied nothing
pub record AreFresh (number : ℕ) (shards : List Contents) : Type 0 where
  pub number_is : length shards ≡ number
  pub each : (i : ℕ) (d : Contents) → i < length shards → slice_index_or shards i d ≡ record { shard = i; shards = number; applied = 0; floor = 0; puts = []; entries = [] }
