-- The events of a caller, but for the acceptances.
use Rattle.std.specs.Prelude.{ℕ, List, [], ◌∷◌, ◌++◌, Option, Some, None, option_to_list}
use Rattle.cq_base.specs.declared.change.Change.{Change}
use Rattle.cq_history.specs.declared.event.Event.{Event}
use Rattle.cq_history.specs.declared.event.Event.TheVariants as event
use Rattle.cq_cells.specs.Passes.{by_of}
use Rattle.cq_chain.specs.Passes.{BoardPass}
use Rattle.cq_shared.specs.declared.deed.Deed.{Deed}
use Rattle.cq_shared.specs.declared.deed.Deed.TheVariants.{Nothing, Ask, Took, Back, Done, Publish, Open, Shut, Floor}

abbrev pub event_of : ℕ → Deed → Option Event
event_of by Nothing = None
event_of by Ask = Some (event.Ask by)
event_of by (Took r) = Some (event.Took by r)
event_of by (Back r) = Some (event.Back by r)
event_of by (Done r) = Some (event.Done by r)
event_of by (Publish p) = Some (event.Publish p)
event_of by (Open p) = Some (event.Open by p)
event_of by Shut = Some (event.Shut by)
event_of by (Floor f) = Some (event.Floor f)

-- how many changes each shard must have applied before it
abbrev pub asks_of : Deed → ℕ
asks_of Nothing = 0
asks_of Ask = 0
asks_of (Took r) = 0
asks_of (Back r) = 0
asks_of (Done r) = 0
asks_of (Publish p) = p
asks_of (Open p) = 0
asks_of Shut = 0
asks_of (Floor f) = 0

abbrev pub acceptance : BoardPass → Change → List Event
acceptance p change = event.Accept (by_of p) change ∷ []

-- the event of the pass's caller, if there is one
abbrev pub events_of : BoardPass → Deed → List Event
events_of p deed = option_to_list (event_of (by_of p) deed)

-- what the pass has seen, and its caller's event after that
abbrev pub seen_with : BoardPass → Deed → List Event
seen_with p deed = p.seen ++ events_of p deed

-- what it has seen, and its caller's acceptance of a change
abbrev pub seen_accepting : BoardPass → Change → List Event
seen_accepting p change = p.seen ++ acceptance p change
