-- A board of one caller, from its changes to a view of all of them. These are for private clauses.
use Rattle.std.specs.Prelude.{◌≡◌, ◌≤◌, ℕ, List, length, None}
use Rattle.std.specs.Arc.{arc_value}
use Rattle.cq_base.specs.declared.change.Change.{Change}
use Rattle.cq_base.specs.declared.settings.Settings.{Settings}
use Rattle.cq_board.specs.Listings.{IsListing}
use Rattle.cq_board.specs.Stands.{BoardState, StandsFor}
use Rattle.cq_board.specs.declared.listing.View.{View}
use Rattle.cq_history.specs.State.{changes_in, ready, view_of, IsDone}
use Rattle.cq_history.specs.declared.event.Event.{Event}
use Rattle.cq_work.specs.Work.{IsWorkOf}
use Rattle.cq_work.specs.declared.work.Work.{Work}

-- nothing was published, no view opened, and no floor raised
pub record Holds (set : Settings) (b : BoardState) : Type 0 where
  pub history : List Event
  pub stands : StandsFor history b
  pub settings_are : b.settings ≡ set
  pub one_caller : length b.state.views ≡ 1
  pub unpublished : b.state.published ≡ 0
  pub unfloored : b.state.floor ≡ 0
  pub closed : view_of b.state 0 ≡ None

-- it continues with the same changes, of which no fewer are done
pub record GoesOn (set : Settings) (old new : BoardState) : Type 0 where
  pub holds : Holds set new
  pub same : changes_in new.state ≡ changes_in old.state
  pub more : ready old.state ≤ ready new.state

-- and the work of this one is done
pub record IsMade (set : Settings) (change : ℕ) (old new : BoardState) : Type 0 where
  pub on : GoesOn set old new
  pub done : IsDone new.state change

-- and so are all of them
pub record AreMade (set : Settings) (old new : BoardState) : Type 0 where
  pub on : GoesOn set old new
  pub all : length (changes_in new.state) ≤ ready new.state

-- the version of all these changes is published, and no view open
pub record IsPublished (set : Settings) (changes : List Change) (b : BoardState) : Type 0 where
  pub settings_are : b.settings ≡ set
  pub one_caller : length b.state.views ≡ 1
  pub changes_are : changes_in b.state ≡ changes
  pub published : b.state.published ≡ length changes
  pub closed : view_of b.state 0 ≡ None

-- the view shows the version of all these changes
pub record IsViewOfAll {L : Type 0} (set : Settings) (changes : List Change) (view : View (Work L)) : Type 0 where
  pub version_is : view.version ≡ length changes
  pub shows : IsListing (IsWorkOf set) changes (arc_value view.listing)
