-- What a history of events leaves: its state.
use Rattle.std.specs.Prelude.{◌≡◌, ◌==◌, ℕ, ◌+◌, ◌-◌, ◌<◌, ◌≤◌, Bool, true, false, not, ◌||◌, ◌&&◌, List, [], ◌∷◌, ◌++◌, map, fold, replicate, filter, slice_index_or, slice_set, Option, Some, None, is_none}
use Rattle.std.specs.List.{prefix_len, position_or_len, filter_map}
use Rattle.cq_base.specs.declared.change.Change.{Change}
use Rattle.cq_base.specs.declared.change.Change.TheVariants.{Gate}
use Rattle.cq_history.specs.declared.event.Event.{Event}
use Rattle.cq_history.specs.declared.event.Event.TheVariants.{Accept, Ask, Took, Back, Done, Publish, Open, Shut, Floor}
use Rattle.cq_history.specs.Changes.{is_put, IsNumber}

-- an accepted change: whether its work was done, and who took it and did not give it back
pub record Slot : Type 0 where
  pub change : Change
  pub finished : Bool
  pub holder : Option ℕ

-- the slots of the accepted changes in order, the last published version, the last floor, and the version that each caller has open
pub record State : Type 0 where
  pub slots : List Slot
  pub published : ℕ
  pub floor : ℕ
  pub views : List (Option ℕ)

abbrev pub no_slot : Slot
no_slot = record { change = Gate [] []; finished = false; holder = None }

abbrev pub new_slot : Change → Slot
new_slot change = record { change = change; finished = false; holder = None }

-- the slot of the change with this number
abbrev pub slot_of : State → ℕ → Slot
slot_of s r = slice_index_or s.slots (r - 1) no_slot

abbrev pub with_slot : State → ℕ → Slot → State
with_slot s r slot = record { slots = slice_set s.slots (r - 1) slot; published = s.published; floor = s.floor; views = s.views }

-- the state of this many callers before any event
abbrev pub start : ℕ → State
start callers = record { slots = []; published = 0; floor = 0; views = replicate callers None }

abbrev pub after : State → Event → State
after s (Accept by change) = record { slots = s.slots ++ new_slot change ∷ []; published = s.published; floor = s.floor; views = s.views }
after s (Ask by) = s
after s (Took by r) = with_slot s r (record { change = (slot_of s r).change; finished = (slot_of s r).finished; holder = Some by })
after s (Back by r) = with_slot s r (record { change = (slot_of s r).change; finished = (slot_of s r).finished; holder = None })
after s (Done by r) = with_slot s r (record { change = (slot_of s r).change; finished = true; holder = (slot_of s r).holder })
after s (Publish p) = record { slots = s.slots; published = p; floor = s.floor; views = s.views }
after s (Open by p) = record { slots = s.slots; published = s.published; floor = s.floor; views = slice_set s.views by (Some p) }
after s (Shut by) = record { slots = s.slots; published = s.published; floor = s.floor; views = slice_set s.views by None }
after s (Floor f) = record { slots = s.slots; published = s.published; floor = f; views = s.views }

-- the state that a history leaves
abbrev pub state : ℕ → List Event → State
state callers history = fold after (start callers) history

-- the accepted changes
abbrev pub changes_in : State → List Change
changes_in s = map (λ (slot : Slot). slot.change) s.slots

-- only a put has work
abbrev pub is_done : Slot → Bool
is_done slot = not (is_put slot.change) || slot.finished

-- neither done nor taken
abbrev pub is_free : Slot → Bool
is_free slot = not (is_done slot) && is_none slot.holder

abbrev pub IsAccepted : State → ℕ → Type 0
IsAccepted s r = IsNumber s.slots r

abbrev pub IsDone : State → ℕ → Type 0
IsDone s r = IsAccepted s r × (is_done (slot_of s r) ≡ true)

abbrev pub IsUndone : State → ℕ → Type 0
IsUndone s r = IsAccepted s r × (is_done (slot_of s r) ≡ false)

abbrev pub IsTakenBy : State → ℕ → ℕ → Type 0
IsTakenBy s r by = IsUndone s r × ((slot_of s r).holder ≡ Some by)

-- the greatest number up to which all changes are done
abbrev pub ready : State → ℕ
ready s = prefix_len is_done s.slots

-- all changes up to this number are done
abbrev pub AreDoneUpTo : State → ℕ → Type 0
AreDoneUpTo s d = (r : ℕ) → 0 < r → r ≤ d → IsDone s r

-- the least number of a change that is neither done nor taken; past the last change if there is none
abbrev pub first_free : State → ℕ
first_free s = position_or_len is_free s.slots + 1

-- the version that the caller has open
abbrev pub view_of : State → ℕ → Option ℕ
view_of s by = slice_index_or s.views by None

-- the changes of the history's Accept events
abbrev pub accepted_of : Event → Option Change
accepted_of (Accept by change) = Some change
accepted_of (Ask by) = None
accepted_of (Took by r) = None
accepted_of (Back by r) = None
accepted_of (Done by r) = None
accepted_of (Publish p) = None
accepted_of (Open by p) = None
accepted_of (Shut by) = None
accepted_of (Floor f) = None

abbrev pub accepted : List Event → List Change
accepted history = filter_map accepted_of history

-- who made the event
abbrev pub maker : Event → Option ℕ
maker (Accept by change) = Some by
maker (Ask by) = Some by
maker (Took by r) = Some by
maker (Back by r) = Some by
maker (Done by r) = Some by
maker (Publish p) = None
maker (Open by p) = Some by
maker (Shut by) = Some by
maker (Floor f) = None

abbrev pub is_by : ℕ → Option ℕ → Bool
is_by c None = false
is_by c (Some d) = c == d

-- the events of one caller, in order
abbrev pub own : ℕ → List Event → List Event
own c history = filter (λ (e : Event). is_by c (maker e)) history
