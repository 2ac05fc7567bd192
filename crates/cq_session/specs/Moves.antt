-- How the pass that buckets are read by moves.
use Rattle.std.specs.Prelude.{◌≡◌, ℕ, ◌-◌, ◌^◌, ◌≤◌, min, List, []}
use Rattle.std.specs.Borrow.{GName}
use Rattle.cq_base.specs.declared.lang.Lang.{Lang}
use Rattle.cq_history.specs.declared.event.Event.{Event}
use Rattle.cq_history.specs.State.{state}
use Rattle.cq_board.specs.declared.listing.View.{View}
use Rattle.cq_hub.specs.Hubs.{Grows, Never}
use Rattle.cq_hub.specs.Views.{IsOpen}

-- Whatever history the pass stood for with the view open, it stands for one that goes on from it by no event of its
-- caller, and the view is still open.
pub record Later {S P W : Type 0} (Stands : S → P → ℕ → List Event → Type 0) (callers : ℕ) (alone : Type 0) (IsWork : Lang → List ℕ → W → Type 0) (hub : S) (view : View W) (c : ℕ) (h : List Event) (pass : P) : Type 0 where
  pub after : List Event
  pub grows : Grows alone Never c h after []
  pub stands : Stands hub pass c after
  pub opened : IsOpen IsWork (state callers after) c view

abbrev pub Moves : {S P W : Type 0} → (S → P → ℕ → List Event → Type 0) → ℕ → Type 0 → (Lang → List ℕ → W → Type 0) → S → View W → P → P → Type 0
Moves Stands callers alone IsWork hub view old new =
    (c : ℕ) (h : List Event) → Stands hub old c h → IsOpen IsWork (state callers h) c view → Later Stands callers alone IsWork hub view c h new

-- what buckets over a pass hold of it
pub record Carried (S V P : Type 0) : Type 0 where
  pub hub : S
  pub shown : V
  pub pass : P
  -- the name of the pass that was lent
  pub lent : GName

-- The hub and the view stay, and so does the place at which the pass lies; what lies there moves so, and has asked no fewer
-- questions, up to the last number of 64 bits.
pub record MovesTo {S P W : Type 0} (Stands : S → P → ℕ → List Event → Type 0) (callers : S → ℕ) (alone : Type 0) (asked : P → ℕ) (IsWork : S → Lang → List ℕ → W → Type 0) (old new : Carried S (View W) P) : Type 0 where
  pub same_hub : new.hub ≡ old.hub
  pub same_view : new.shown ≡ old.shown
  pub same_pass : new.lent ≡ old.lent
  pub moves : Moves Stands (callers old.hub) alone (IsWork old.hub) old.hub old.shown old.pass new.pass
  pub no_fewer : min (asked old.pass) (2 ^ 64 - 1) ≤ min (asked new.pass) (2 ^ 64 - 1)
