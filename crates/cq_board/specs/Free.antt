-- Which changes may be taken, by those that were given back. Changes stand at their indexes, from 0.
use Rattle.std.specs.Prelude.{◌≡◌, ◌≢◌, ℕ, ◌<◌, ◌≤◌, Bool, true, false, List, length, All, AllPairs, is_none, slice_index_or, slice_set}
use Rattle.std.specs.Ordering.{nat_cmp}
use Rattle.std.specs.List.{list_any, position_or_len, prefix_len}
use Rattle.std.specs.BTreeMap.{is_at}
use Rattle.std.specs.BinaryHeap.{IsHeap, heap_items, heap_capacity}
use Rattle.std.specs.declared.cmp.Ordering.{Ordering}
use Rattle.std.specs.declared.cmp.Reverse.{Reverse}
use Rattle.cq_history.specs.State.{Slot, no_slot, is_done, is_free}
use Rattle.cq_board.specs.declared.free.FreeChanges.{FreeChanges}

-- the least first
abbrev pub least_first : Reverse ℕ → Reverse ℕ → Ordering
least_first x y = nat_cmp y.0 x.0

-- how many may be given back with no memory taken
abbrev pub room_of : FreeChanges → ℕ
room_of free = heap_capacity free.given_back

abbrev pub is_index : ℕ → Reverse ℕ → Bool
is_index i given = is_at (nat_cmp i) given.0

-- whether the change was given back, and not taken since
abbrev pub was_given : FreeChanges → ℕ → Bool
was_given free i = list_any (is_index i) (heap_items free.given_back)

-- no change before the index may be taken
abbrev pub IsNoneBefore : List Slot → ℕ → Type 0
IsNoneBefore slots i = (k : ℕ) → k < i → is_free (slice_index_or slots k no_slot) ≡ false

-- nobody has a change from the index on
abbrev pub IsNoneHeldFrom : List Slot → ℕ → Type 0
IsNoneHeldFrom slots i = (k : ℕ) → i ≤ k → is_none (slice_index_or slots k no_slot).holder ≡ true

-- those that were given back are a heap, the least on top
abbrev pub AreHeaped : FreeChanges → Type 0
AreHeaped free = IsHeap least_first (heap_items free.given_back)

-- each of them is above the floor
abbrev pub AreBehind : ℕ → FreeChanges → Type 0
AreBehind floor free = All (λ given. floor ≤ given.0) (heap_items free.given_back)

-- nobody has the change that was given back
abbrev pub IsLoose : List Slot → Reverse ℕ → Type 0
IsLoose slots given = is_none (slice_index_or slots given.0 no_slot).holder ≡ true

abbrev pub AreOthers : Reverse ℕ → Reverse ℕ → Type 0
AreOthers x y = x.0 ≢ y.0

pub record AreFree (slots : List Slot) (floor : ℕ) (free : FreeChanges) : Type 0 where
  pub heap : AreHeaped free
  pub below : All (λ given. given.0 < free.untaken) (heap_items free.given_back)
  -- those before the index that may be taken were given back
  pub given : (i : ℕ) → i < free.untaken → is_free (slice_index_or slots i no_slot) ≡ true → was_given free i ≡ true
  -- none from the index on was ever taken
  pub untaken : IsNoneHeldFrom slots free.untaken
  pub within : free.untaken ≤ length slots
  -- each of them is above the floor and there once, and nobody has it: so there is room for each that somebody has, if there
  -- is room for all above the floor
  pub passed : AreBehind floor free
  pub once : AllPairs AreOthers (heap_items free.given_back)
  pub loose : All (IsLoose slots) (heap_items free.given_back)

-- the index is the first that was given back, if it is one that was taken before
abbrev pub IsNext : FreeChanges → ℕ → Type 0
IsNext free i = i < free.untaken → (d : Reverse ℕ) → (slice_index_or (heap_items free.given_back) 0 d).0 ≡ i

-- whatever slots and floor they were those of, if the first free change is at the index, they are those of the slots in
-- which somebody has it
abbrev pub TakesFirst : ℕ → FreeChanges → FreeChanges → Type 0
TakesFirst i old new =
    (slots : List Slot) (floor : ℕ) (slot : Slot) → AreFree slots floor old → i ≡ position_or_len is_free slots → i < length slots
    → is_none slot.holder ≡ false → AreFree (slice_set slots i slot) floor new

-- they are those of the slots in which nobody has the change at the index
abbrev pub AreFreeOnceGiven : List Slot → ℕ → ℕ → FreeChanges → Type 0
AreFreeOnceGiven slots floor i free = (slot : Slot) → is_none slot.holder ≡ true → AreFree (slice_set slots i slot) floor free

-- whatever slots and lower floor they were those of, if all up to the floor is done, they are those of this one
abbrev pub RisesTo : ℕ → FreeChanges → FreeChanges → Type 0
RisesTo floor old new = (slots : List Slot) (low : ℕ) → low ≤ floor → floor ≤ prefix_len is_done slots → AreFree slots low old → AreFree slots floor new

-- whatever slots and floor they were those of, if all up to this floor is done, they still are
abbrev pub AreFreeStill : ℕ → FreeChanges → FreeChanges → Type 0
AreFreeStill floor old new = (slots : List Slot) (low : ℕ) → floor ≤ prefix_len is_done slots → AreFree slots low old → AreFree slots low new
