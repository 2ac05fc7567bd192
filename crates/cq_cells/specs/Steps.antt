-- What each step does to a seat's view, and what it shows.
use Rattle.std.specs.Prelude.{◌≡◌, ◌≢◌, ◌⊎◌, ℕ, ◌+◌, ◌-◌, ◌/◌, ◌^◌, ◌<◌, ◌≤◌, List, [], ◌∷◌, ◌++◌, Option, Some, None, IfSome, option_to_list}
use mathlib.Core.List.{IsPrefix}
use Rattle.atomic_table.specs.Table.{Me, Step, rest}
use Rattle.atomic_table.specs.declared.shared.Seat.{Seat}
use Rattle.atomic_table.specs.Seated.{TableId}
use Rattle.cq_cells.specs.declared.view.View.{View}
use Rattle.cq_cells.specs.declared.view.Hand.{Hand}
use Rattle.cq_cells.specs.declared.view.Hand.TheVariants.{Free, Has}
use Rattle.cq_cells.specs.Callers.{Differ, OwnSame, NoneFrom, longer}
use Rattle.cq_cells.specs.Counts.{least_of, more_known}
use Rattle.cq_cells.specs.Rule.{MayNote}

abbrev Sat : Type 0 → Type 0 → Type 0 → Type 0
Sat I E K = Me (Option I) (View I E K)

module _ {I E : Type 0} where
  abbrev pub noting : Option E → Hand I E → Hand I E
  noting event Free = Free
  noting event (Has k x noted) = Has k x event

  abbrev pub noted_of : Hand I E → Option E
  noted_of Free = None
  noted_of (Has k x noted) = noted

module _ {I E K : Type 0} where
  -- of the first seat
  abbrev pub first_view : ℕ → K → View I E K
  first_view total key = record { about = Some key; callers = 0 ∷ []; seen = []; hand = Free; known = []; next = 1; room = total - 1; beside = []; joined = [] }

  -- of a seat that was joined into another, of which the rule says nothing
  abbrev pub spent : View I E K
  spent = record { about = None; callers = []; seen = []; hand = Free; known = []; next = 0; room = 0; beside = []; joined = [] }

  -- what a split leaves of the first view, and the new one
  abbrev pub less : View I E K → View I E K
  less v = record v { next = v.next + 1; room = v.room - 1 }

  abbrev pub child : View I E K → View I E K
  child v = record { about = v.about; callers = v.next ∷ []; seen = v.seen; hand = Free; known = v.known; next = 0; room = 0; beside = []; joined = [] }

  -- of a seat of no caller, which has seen what this one has
  abbrev pub witness : View I E K → View I E K
  witness v = record { about = v.about; callers = []; seen = v.seen; hand = Free; known = v.known; next = 0; room = 0; beside = []; joined = [] }

  -- a seat that is joined lies beside this one until the two are compared
  abbrev pub beside_of : View I E K → View I E K → View I E K
  beside_of v w = record v { known = v.known ++ w.known; beside = w.seen; joined = w.callers }

  abbrev pub together : View I E K → View I E K
  together v = record v { seen = longer v.seen v.beside; callers = v.callers ++ v.joined; beside = []; joined = [] }

  abbrev pub took : ℕ → I → List E → ℕ → View I E K → View I E K
  took k x seen c v = record v { seen = seen; hand = Has k x None; known = more_known k c v.known }

  abbrev pub let_go : ℕ → ℕ → View I E K → View I E K
  let_go k count v = record v { seen = v.seen ++ option_to_list (noted_of v.hand); hand = Free; known = more_known k count v.known }

  -- The cell was taken if its word was found as expected, and else nothing changed. The history of the first seat has no event of a number that is not made
  abbrev pub taken : (K → List E → Type 0) → (K → List E → ℕ → ℕ → I → Type 0) → (E → Option ℕ) → Step (Option I) → Sat I E K → ℕ → Sat I E K → Type 0
  taken lawful fits caller st m r m' =
      (r ≡ st.first → (x : I) × (log : List E) × (seen : List E) × (m' ≡ (took st.word x seen (r / 2) m.0, (st.word, Some x) ∷ m.1))
      × IsPrefix m.0.seen seen × IsPrefix seen log × IfSome m.0.about (λ key. lawful key log × fits key log st.word (r / 2) x) × (st.word ≡ 0 → seen ≡ log) × (st.word ≢ 0 → seen ≡ m.0.seen)
      × OwnSame caller m.0.callers log m.0.seen × (least_of st.word m.0.known ≤ r / 2) × (0 < m.0.next → NoneFrom caller m.0.next log))
      × (r ≢ st.first → m' ≡ m)

  abbrev pub noted : Option E → Step (Option I) → Sat I E K → ℕ → Sat I E K → Type 0
  noted event st m r m' = m' ≡ (record m.0 { hand = noting event m.0.hand }, m.1)

  abbrev pub released : Step (Option I) → Sat I E K → ℕ → Sat I E K → Type 0
  released st m r m' = (m' ≡ (let_go st.word (st.first / 2) m.0, rest m.1)) × (st.word ≢ 0 → least_of st.word m.0.known ≤ st.first / 2)

  -- what one had seen begins with what the other had, the events of their numbers are those that each had seen, and all of these numbers are different. The first seat sees no event of a number that is not made
  abbrev pub compared : (E → Option ℕ) → Step (Option I) → Sat I E K → ℕ → Sat I E K → Type 0
  compared caller st m r m' =
      (m' ≡ (together m.0, m.1)) × (IsPrefix m.0.seen m.0.beside ⊎ IsPrefix m.0.beside m.0.seen)
      × OwnSame caller m.0.callers m'.0.seen m.0.seen × OwnSame caller m.0.joined m'.0.seen m.0.beside
      × Differ (m.0.callers ++ m.0.joined) × (0 < m.0.next → NoneFrom caller m.0.next m'.0.seen)

  abbrev pub view : Seat (Option I) (View I E K) → View I E K
  view p = p.me.0

  abbrev pub IsSameSeat : Seat (Option I) (View I E K) → Seat (Option I) (View I E K) → Type 0
  IsSameSeat p q = (q.table_id ≡ p.table_id) × (q.id ≡ p.id)

  -- what the cells were made with, the numbers and the room are as before
  abbrev pub KeepsCaller : View I E K → View I E K → Type 0
  KeepsCaller v w = (w.about ≡ v.about) × (w.callers ≡ v.callers) × (w.next ≡ v.next) × (w.room ≡ v.room)

  -- the numbers of another view come after its own, and all else of its caller is as before
  abbrev pub KeepsAndAdds : View I E K → List ℕ → View I E K → Type 0
  KeepsAndAdds v more w = (w.callers ≡ v.callers ++ more) × (w.next ≡ v.next) × (w.room ≡ v.room) × (w.about ≡ v.about)

  -- what it has seen and knows is as before
  abbrev pub KeepsSeen : View I E K → View I E K → Type 0
  KeepsSeen v w = (w.seen ≡ v.seen) × (w.known ≡ v.known)

  -- what was noted with the hand comes after what it has seen
  abbrev pub SeesNoted : View I E K → View I E K → Type 0
  SeesNoted v w = w.seen ≡ v.seen ++ option_to_list (noted_of v.hand)

  -- of its numbers the history has the events that it has seen, and no other
  abbrev pub HasOwn : (E → Option ℕ) → View I E K → List E → Type 0
  HasOwn caller v log = OwnSame caller v.callers log v.seen

  abbrev pub IsCompared : View I E K → Type 0
  IsCompared v = (v.beside ≡ []) × (v.joined ≡ [])

  -- it holds no cell
  abbrev pub IsIdle : Seat (Option I) (View I E K) → Type 0
  IsIdle p = (p.me.0.hand ≡ Free) × (p.me.1 ≡ []) × IsCompared p.me.0

  -- it holds this cell, whose value is out of the slot
  abbrev pub HasEmpty : Seat (Option I) (View I E K) → ℕ → I → Option E → Type 0
  HasEmpty p k x noted = (p.me.0.hand ≡ Has k x noted) × (p.me.1 ≡ (k, None) ∷ []) × IsCompared p.me.0

  -- the seat is of these cells
  abbrev pub IsOf : TableId → K → Seat (Option I) (View I E K) → Type 0
  IsOf table key p = (p.table_id ≡ table) × (p.me.0.about ≡ Some key)

-- one of them begins with the other
abbrev pub AreOneHistory : {E : Type 0} → List E → List E → Type 0
AreOneHistory a b = IsPrefix a b ⊎ IsPrefix b a

module _ {I E : Type 0} where
  -- each value fits its cell before any event
  abbrev pub AllFit : (List E → ℕ → ℕ → I → Type 0) → ℕ → List I → Type 0
  AllFit fits k [] = Unit {0}
  AllFit fits k (x ∷ xs) = fits [] k 0 x × AllFit fits (k + 1) xs

module _ {I E : Type 0} (lawful : List E → Type 0) (fits : List E → ℕ → ℕ → I → Type 0) where
  -- what is to be shown of the value y that goes into the cell k, in which x was, with this count
  abbrev pub Fitting : List E → ℕ → I → Option E → ℕ → I → Type 0
  Fitting seen k x event count y = (log : List E) (c : ℕ) → lawful log → IsPrefix seen log → (k ≡ 0 → seen ≡ log) → fits log k c x
      → fits (log ++ option_to_list event) k count y × (k ≢ 0 → c ≤ count)

module _ {I E K : Type 0} (lawful : K → List E → Type 0) where
  -- what a pass finds that takes a cell: the value is right, for what it has then seen of the board, and for a history that begins with that of a shard
  abbrev pub Finds : (K → List E → ℕ → ℕ → I → Type 0) → (E → Option ℕ) → K → ℕ → I → Seat (Option I) (View I E K) → Seat (Option I) (View I E K) → Type 0
  Finds fits caller key k x p q =
      (log : List E) × (c : ℕ) × IsPrefix (view q).seen log × lawful key log × fits key log k c x × (k ≡ 0 → (view q).seen ≡ log) × (k ≢ 0 → (view q).seen ≡ (view p).seen)
      × ((view q).known ≡ more_known k c (view p).known) × OwnSame caller (view p).callers log (view p).seen × (c < 2 ^ 63) × (least_of k (view p).known ≤ c)
      × (0 < (view p).next → NoneFrom caller (view p).next log)

  -- the pass may note the event, if there is one: the cell is the board's
  abbrev pub MayNoteHere : (E → ℕ) → (E → Option ℕ) → K → ℕ → ℕ → Seat (Option I) (View I E K) → Option E → Type 0
  MayNoteHere asks caller key count k p event = IfSome event (λ e. (k ≡ 0) × MayNote (lawful key) asks caller count (view p) (view p).seen e)

  -- what is to be shown of a value that goes back
  abbrev pub FitsBack : (K → List E → ℕ → ℕ → I → Type 0) → K → ℕ → ℕ → I → Seat (Option I) (View I E K) → Type 0
  FitsBack fits key k count y p = (x : I) (event : Option E) → HasEmpty p k x event → Fitting (lawful key) (fits key) (view p).seen k x event count y
