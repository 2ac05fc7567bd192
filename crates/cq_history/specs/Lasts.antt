-- What the last events of each kind say, of who has a change, of what a caller has open, and of what is published.
use Rattle.std.specs.Prelude.{ℕ, ◌==◌, if◌then◌else◌, List, fold, Contains, Option, Some, None}
use Rattle.cq_history.specs.declared.event.Event.{Event}
use Rattle.cq_history.specs.declared.event.Event.TheVariants.{Accept, Ask, Took, Back, Done, Publish, Open, Shut, Floor}

-- who has the change: the last one that took it, unless it was given back since
abbrev pub holder_after : ℕ → Option ℕ → Event → Option ℕ
holder_after r now (Accept by change) = now
holder_after r now (Ask by) = now
holder_after r now (Took by taken) = if r == taken then Some by else now
holder_after r now (Back by given) = if r == given then None else now
holder_after r now (Done by finished) = now
holder_after r now (Publish p) = now
holder_after r now (Open by p) = now
holder_after r now (Shut by) = now
holder_after r now (Floor f) = now

abbrev pub holder_in : ℕ → List Event → Option ℕ
holder_in r history = fold (holder_after r) None history

-- some event did the work of the change
abbrev pub IsDoneIn : ℕ → List Event → Type 0
IsDoneIn r history = (by : ℕ) × Contains history (Done by r)

-- the version that the caller has open: that of its last opening, unless it shut its view since
abbrev pub view_after : ℕ → Option ℕ → Event → Option ℕ
view_after c now (Accept by change) = now
view_after c now (Ask by) = now
view_after c now (Took by r) = now
view_after c now (Back by r) = now
view_after c now (Done by r) = now
view_after c now (Publish p) = now
view_after c now (Open by p) = if c == by then Some p else now
view_after c now (Shut by) = if c == by then None else now
view_after c now (Floor f) = now

abbrev pub view_in : ℕ → List Event → Option ℕ
view_in c history = fold (view_after c) None history

-- the last version that was published, or 0
abbrev pub published_after : ℕ → Event → ℕ
published_after now (Accept by change) = now
published_after now (Ask by) = now
published_after now (Took by r) = now
published_after now (Back by r) = now
published_after now (Done by r) = now
published_after now (Publish p) = p
published_after now (Open by p) = now
published_after now (Shut by) = now
published_after now (Floor f) = now

abbrev pub published_in : List Event → ℕ
published_in history = fold published_after 0 history

-- the last floor, or 0
abbrev pub floor_after : ℕ → Event → ℕ
floor_after now (Accept by change) = now
floor_after now (Ask by) = now
floor_after now (Took by r) = now
floor_after now (Back by r) = now
floor_after now (Done by r) = now
floor_after now (Publish p) = now
floor_after now (Open by p) = now
floor_after now (Shut by) = now
floor_after now (Floor f) = f

abbrev pub floor_in : List Event → ℕ
floor_in history = fold floor_after 0 history
