-- The view that each caller has open.
use Rattle.std.specs.Prelude.{◌≡◌, ℕ, ◌<◌, List, length, take, map, option_map, Option, Some, slice_index_or}
use Rattle.std.specs.Arc.{arc_value}
use Rattle.cq_base.specs.declared.lang.Lang.{Lang}
use Rattle.cq_base.specs.declared.settings.Settings.{Settings}
use Rattle.cq_history.specs.State.{State, changes_in}
use Rattle.cq_board.specs.Listings.{IsListing}
use Rattle.cq_board.specs.Stands.{BoardState}
use Rattle.cq_board.specs.declared.listing.View.{View}

module _ {W : Type 0} where
  -- the view is of its version of these changes
  abbrev pub IsView : (Lang → List ℕ → W → Type 0) → State → View W → Type 0
  IsView IsWork s v = IsListing IsWork (take v.version (changes_in s)) (arc_value v.listing)

  -- the same of a board's
  abbrev pub IsViewOn : (Settings → Lang → List ℕ → W → Type 0) → BoardState → View W → Type 0
  IsViewOn IsWorkOf b v = IsView (IsWorkOf b.settings) b.state v

  abbrev pub version_in : View W → ℕ
  version_in v = v.version

  -- each caller has the view open that the state says
  pub record AreViews (IsWork : Lang → List ℕ → W → Type 0) (s : State) (views : List (Option (View W))) : Type 0 where
    pub versions : map (option_map version_in) views ≡ s.views
    pub each : (i : ℕ) (v : View W) → i < length views → ((d : Option (View W)) → slice_index_or views i d ≡ Some v) → IsView IsWork s v
