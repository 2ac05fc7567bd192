-- The slot that is kept of a change, and the slots of all changes.
use Rattle.std.specs.Prelude.{◌≡◌, ℕ, ◌-◌, Bool, true, false, List, [], ◌∷◌, ◌++◌, map, is_some, Option, MatchOption, slice_index_or, slice_set}
use Rattle.std.specs.Arc.{arc_value}
use Rattle.cq_base.specs.declared.change.Change.{Change}
use Rattle.cq_base.specs.declared.change.Change.TheVariants as change
use Rattle.cq_base.specs.declared.lang.Lang.{Lang}
use Rattle.cq_history.specs.Changes.{IsWorkFor}
use Rattle.cq_history.specs.State.{State, Slot, new_slot, no_slot}
use Rattle.cq_kept.specs.Texts.{given}
use Rattle.cq_kept.specs.declared.kept.Stored.{Stored}
use Rattle.cq_kept.specs.declared.kept.Stored.TheVariants.{Put, Drop, Gate}
use Rattle.cq_kept.specs.declared.kept.Kept.{Kept}

-- the change as it is accepted
abbrev pub change_of : Stored → Change
change_of (Put file lang text) = change.Put (arc_value file.project) (arc_value file.path) lang text.text
change_of (Drop file) = change.Drop (arc_value file.project) (arc_value file.path)
change_of (Gate key conditions) = change.Gate (arc_value key.project) (arc_value conditions)

-- a text of it is still there
abbrev pub has_text : Stored → Bool
has_text (Put file lang text) = text.is_there
has_text (Drop file) = true
has_text (Gate key conditions) = true

-- the same change, without its text
abbrev pub given_up : Stored → Stored
given_up (Put file lang text) = Put file lang (given text.text false)
given_up (Drop file) = Drop file
given_up (Gate key conditions) = Gate key conditions

module _ {W : Type 0} where
  abbrev pub slot_from : Kept W → Slot
  slot_from k = record { change = change_of k.change; finished = is_some k.work; holder = k.holder }

  -- its work is that of its change, which has its text until there is one
  abbrev pub IsWorked : (Lang → List ℕ → W → Type 0) → Kept W → Type 0
  IsWorked IsWork k = MatchOption k.work (has_text k.change ≡ true) (λ work. IsWorkFor IsWork (change_of k.change) (arc_value work))

abbrev pub changes_of : List Slot → List Change
changes_of slots = map (λ (slot : Slot). slot.change) slots

abbrev pub state_from : List Slot → ℕ → ℕ → List (Option ℕ) → State
state_from slots published floor views = record { slots = slots; published = published; floor = floor; views = views }

-- the slot of the change with this number
abbrev pub slot_at : List Slot → ℕ → Slot
slot_at slots number = slice_index_or slots (number - 1) no_slot

-- the slots, and that of one change more
abbrev pub with_change : List Slot → Change → List Slot
with_change slots change = slots ++ new_slot change ∷ []

-- the slots, if the change with this number has another holder
abbrev pub with_holder : List Slot → ℕ → Option ℕ → List Slot
with_holder slots number holder = slice_set slots (number - 1) (record { change = (slot_at slots number).change; finished = (slot_at slots number).finished; holder = holder })

-- the slots, if the work of the change with this number is done
abbrev pub with_work : List Slot → ℕ → List Slot
with_work slots number = slice_set slots (number - 1) (record { change = (slot_at slots number).change; finished = true; holder = (slot_at slots number).holder })

-- the numbers of the files that a change of this number puts
abbrev pub put_by : Change → ℕ → List ℕ
put_by (change.Put project path lang text) r = r ∷ []
put_by (change.Drop project path) r = []
put_by (change.Gate project conditions) r = []

-- after the numbers comes this one, if the change with it puts a file
abbrev pub NotesPut : Change → ℕ → List ℕ → List ℕ → Type 0
NotesPut change number old new = new ≡ old ++ put_by change number
