-- The rule of the cells, which holds between any two atomic steps.
use Rattle.std.specs.Prelude.{◌≡◌, ◌⊎◌, ℕ, ◌+◌, ◌/◌, ◌%◌, ◌<◌, ◌≤◌, List, [], ◌∷◌, ◌++◌, length, slice_index, Option, Some, IfSome}
use mathlib.Core.Option.{none, some}
use mathlib.Core.List.{IsPrefix}
use lib.ListN.{get_elem?}
use Rattle.atomic_table.specs.Table.{State}
use Rattle.cq_cells.specs.declared.view.View.{View}
use Rattle.cq_cells.specs.declared.view.Hand.{Hand}
use Rattle.cq_cells.specs.declared.view.Hand.TheVariants.{Free, Has}
use Rattle.cq_cells.specs.Callers.{Each, Differ, Among, own, MayCall}
use Rattle.cq_cells.specs.Counts.{least_of, Reached}

abbrev pub HasCell : {I E : Type 0} → ℕ → Hand I E → Type 0
HasCell k Free = ⊥
HasCell k (Has j x noted) = j ≡ k

module _ {E : Type 0} (caller : E → Option ℕ) where
  -- these numbers are made and are this seat's, which has seen all of their events
  abbrev pub Claims : List E → (ℕ → ℕ) → ℕ → ℕ → List E → List ℕ → Type 0
  Claims log whose made seat seen callers = Each (λ c. (c < made) × (whose c ≡ seat) × (own caller c log ≡ own caller c seen)) callers

module _ {I E K : Type 0} where
  -- the first seat makes the numbers: the next is the least that is not made, and its room is what is left of the total
  abbrev pub RoomOk : ℕ → ℕ → ℕ → View I E K → Type 0
  RoomOk total made seat v = (0 < v.next → (seat ≡ 0) × (v.next ≡ made) × (v.next + v.room ≡ total)) × (v.next ≡ 0 → v.room ≡ 0)

  -- what the holder of the board may note: the history stays lawful, the event is the holder's or nobody's, and each other cell is known to have reached what it asks for
  abbrev pub MayNote : (List E → Type 0) → (E → ℕ) → (E → Option ℕ) → ℕ → View I E K → List E → E → Type 0
  MayNote lawful asks caller cells v seen e = lawful (seen ++ e ∷ []) × MayCall (caller e) v.callers × ((k : ℕ) → 0 < k → k < cells → asks e ≤ least_of k v.known)

  module _ (lawful : List E → Type 0) (fits : List E → ℕ → ℕ → I → Type 0) (asks : E → ℕ) (caller : E → Option ℕ) (log : List E) (words : List ℕ) (owner : ℕ → ℕ) (seat : ℕ) (v : View I E K) where
    -- a hand with a cell: the cell is held, and only by this seat; the value as it was taken is right, as one in a free
    -- cell; and the holder of the board has seen the whole history
    abbrev pub HandOk : Hand I E → Type 0
    HandOk Free = Unit {0}
    HandOk (Has k x noted) =
        (k < length words) × (slice_index words k % 2 ≡ 1) × (owner k ≡ seat) × fits log k (slice_index words k / 2) x × (k ≡ 0 → v.seen ≡ log)
        × IfSome noted (λ e. (k ≡ 0) × MayNote lawful asks caller (length words) v log e)

-- what is true of one seat's view
pub record Knows {I E K : Type 0} (lawful : List E → Type 0) (fits : List E → ℕ → ℕ → I → Type 0) (asks : E → ℕ) (caller : E → Option ℕ)
    (log : List E) (words : List ℕ) (owner whose : ℕ → ℕ) (total : ℕ) (key : K) (made seat : ℕ) (v : View I E K) : Type 0 where
  pub about : IfSome v.about (λ k. k ≡ key)
  pub seen : IsPrefix v.seen log
  pub beside : IsPrefix v.beside log
  pub hand : HandOk lawful fits asks caller log words owner seat v v.hand
  pub callers : Claims caller log whose made seat v.seen v.callers
  pub joined : Claims caller log whose made seat v.beside v.joined
  -- its numbers are different
  pub apart : Differ (v.callers ++ v.joined)
  pub known : Reached words v.known
  pub room : RoomOk total made seat v

-- the rule. The history, who holds a held cell, whose a number is, and how many numbers are made exist only in the proof
pub record Kept {I E K : Type 0} (lawful : List E → Type 0) (fits : List E → ℕ → ℕ → I → Type 0) (asks : E → ℕ) (caller : E → Option ℕ) (total : ℕ) (key : K) (s : State (Option I) (View I E K)) : Type 0 where
  pub log : List E
  pub owner : ℕ → ℕ
  pub whose : ℕ → ℕ
  pub made : ℕ
  pub wide : length s.words ≡ length s.homes
  pub law : lawful log
  -- some seat has seen the whole history
  pub longest : (j : ℕ) × (v : View I E K) × (get_elem? s.views j ≡ some v) × ((v.seen ≡ log) ⊎ (v.beside ≡ log))
  -- a free cell has its value in its slot, and the value is right
  pub free : (k : ℕ) → k < length s.words → slice_index s.words k % 2 ≡ 0
      → (x : I) × (get_elem? s.homes k ≡ some (some (Some x))) × fits log k (slice_index s.words k / 2) x
  -- a held cell is in the hand of its owner
  pub held : (k : ℕ) → k < length s.words → slice_index s.words k % 2 ≡ 1
      → (get_elem? s.homes k ≡ some none) × ((v : View I E K) × (get_elem? s.views (owner k) ≡ some v) × HasCell k v.hand)
  -- each number that is made is that of a seat
  pub present : (c : ℕ) → c < made → (v : View I E K) × (get_elem? s.views (whose c) ≡ some v) × Among c (v.callers ++ v.joined)
  -- a number that is not made has no event
  pub fresh : (c : ℕ) → made ≤ c → own caller c log ≡ []
  pub few : made ≤ total
  pub each_seat : (j : ℕ) (v : View I E K) → get_elem? s.views j ≡ some v → Knows lawful fits asks caller log s.words owner whose total key made j v
