-- The view that a caller has open.
use Rattle.std.specs.Prelude.{◌≡◌, ℕ, List, take, Some}
use Rattle.std.specs.Arc.{arc_value}
use Rattle.cq_base.specs.declared.lang.Lang.{Lang}
use Rattle.cq_history.specs.State.{State, changes_in, view_of}
use Rattle.cq_board.specs.Listings.{IsListing}
use Rattle.cq_board.specs.Sound.{HaveFewConditions}
use Rattle.cq_board.specs.declared.listing.View.{View}

-- the view is that of its version of the changes
abbrev pub Shows : {W : Type 0} → (Lang → List ℕ → W → Type 0) → State → View W → Type 0
Shows IsWork s v = IsListing IsWork (take v.version (changes_in s)) (arc_value v.listing)

-- the view is of the last published version, and no project has many conditions
abbrev pub IsLatest : {W : Type 0} → (Lang → List ℕ → W → Type 0) → State → View W → Type 0
IsLatest IsWork s v = (v.version ≡ s.published) × Shows IsWork s v × HaveFewConditions (arc_value v.listing).projects

-- the caller has this view open
pub record IsOpen {W : Type 0} (IsWork : Lang → List ℕ → W → Type 0) (s : State) (c : ℕ) (v : View W) : Type 0 where
  pub version : view_of s c ≡ Some v.version
  pub shows : Shows IsWork s v
