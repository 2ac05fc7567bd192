-- What contracts see of cells and of passes.
use Rattle.std.specs.Prelude.{◌≡◌, ◌≢◌, ◌⊎◌, ℕ, ◌+◌, ◌-◌, ◌<◌, ◌≤◌, ◌^◌, List, [], ◌∷◌, ◌++◌, length, slice_index, Option, Some, None}
use mathlib.Core.List.{IsPrefix}
use Rattle.atomic_table.specs.Seated.{TableId}
use Rattle.cq_cells.specs.declared.view.View.{View}
use Rattle.cq_cells.specs.declared.view.Hand.{Hand}
use Rattle.cq_cells.specs.declared.view.Hand.TheVariants.{Free, Has}
use Rattle.cq_cells.specs.declared.item.Item.{Item}
use Rattle.cq_cells.specs.declared.item.Item.TheVariants as item
use Rattle.cq_cells.specs.Callers.{own, MayCall, OwnSame}
use Rattle.cq_cells.specs.Counts.{least_of}

-- cells: which they are, what they were made with, how many shards they have beside the board, and how many callers there may be
pub record CellsState (K : Type 0) : Type 0 where
  pub table : TableId
  pub about : K
  pub shards : ℕ
  pub callers : ℕ

-- a pass: the cells that it is of, its caller's number and then those of the callers that ended in it, the history that it has seen, the cell that it holds, what it knows of the shards' counts, in the first pass the number of the next caller and how many there may still be, and how many questions were counted
pub record PassState (I E K : Type 0) : Type 0 where
  pub table : TableId
  pub about : Option K
  pub callers : List ℕ
  pub seen : List E
  pub hand : Hand I E
  pub known : List (ℕ × ℕ)
  pub next : ℕ
  pub room : ℕ
  pub asked : ℕ

-- the cells were made with this, for this many callers
abbrev pub AreMadeWith : {K : Type 0} → K → ℕ → CellsState K → Type 0
AreMadeWith about callers cells = (cells.about ≡ about) × (cells.callers ≡ callers)

abbrev pub cells_state : {K : Type 0} → TableId → K → ℕ → ℕ → CellsState K
cells_state table about count callers = record { table = table; about = about; shards = count - 1; callers = callers }

abbrev pub pass_state : {I E K : Type 0} → TableId → ℕ → View I E K → PassState I E K
pass_state table asked v = record { table = table; about = v.about; callers = v.callers; seen = v.seen; hand = v.hand; known = v.known; next = v.next; room = v.room; asked = asked }

module _ {I E : Type 0} where
  -- the value of the cell in hand is out of its slot, and no other is
  abbrev pub Lies : Hand I E → List (ℕ × Option I) → Type 0
  Lies Free slots = slots ≡ []
  Lies (Has k x noted) slots = slots ≡ (k, None) ∷ []

module _ {I E K : Type 0} where
  -- what a pass keeps: the value of the cell in hand is out of its slot, no join is half done, and two numbers are those of its view
  pub record PassOk (by next : ℕ) (v : View I E K) (slots : List (ℕ × Option I)) : Type 0 where
    pub lies : Lies v.hand slots
    pub beside : v.beside ≡ []
    pub joined : v.joined ≡ []
    pub by_is : by ≡ slice_index v.callers 0
    pub next_is : next ≡ v.next

  -- the number of the pass's caller
  abbrev pub by_of : PassState I E K → ℕ
  by_of p = slice_index p.callers 0

  -- the pass is of these cells, its caller is one of theirs, and what is left of the callers is the first pass's room
  pub record IsPassOf (cells : CellsState K) (p : PassState I E K) : Type 0 where
    pub table : p.table ≡ cells.table
    pub about : p.about ≡ Some cells.about
    pub has_caller : 0 < length p.callers
    pub below : slice_index p.callers 0 < cells.callers
    pub first : 0 < p.next → p.next + p.room ≡ cells.callers
    pub later : p.next ≡ 0 → p.room ≡ 0

  -- the pass of the first caller, as it is made
  abbrev pub first_pass : CellsState K → PassState I E K
  first_pass cells = record { table = cells.table; about = Some cells.about; callers = 0 ∷ []; seen = []; hand = Free; known = []; next = 1; room = cells.callers - 1; asked = 0 }

  -- the pass, if the next caller is made, and the pass of that caller, which has seen as much
  abbrev pub with_child : PassState I E K → PassState I E K
  with_child p = record p { next = p.next + 1; room = p.room - 1 }

  abbrev pub child_of : PassState I E K → PassState I E K
  child_of p = record p { callers = p.next ∷ []; next = 0; room = 0; asked = 0 }

  -- the pass holds no cell
  abbrev pub IsFree : PassState I E K → Type 0
  IsFree p = p.hand ≡ Free

  -- its callers, its room and its count are as before
  pub record IsSameCaller (p q : PassState I E K) : Type 0 where
    pub callers : q.callers ≡ p.callers
    pub next : q.next ≡ p.next
    pub room : q.room ≡ p.room
    pub asked : q.asked ≡ p.asked

  -- the history has the events of the pass's caller that the pass has seen and no other, and those of each caller that ended in it
  pub record IsOwn (caller : E → Option ℕ) (p : PassState I E K) (log : List E) : Type 0 where
    pub by : own caller (slice_index p.callers 0) log ≡ own caller (slice_index p.callers 0) p.seen
    pub all : OwnSame caller p.callers log p.seen

  -- how many changes the shard is known to have applied
  abbrev pub least : PassState I E K → ℕ → ℕ
  least p s = least_of (s + 1) p.known

  -- the shard is known to have applied this many, no fewer than was known before, and of the others is known what was
  pub record HasReached (shard applied : ℕ) (p q : PassState I E K) : Type 0 where
    pub here : least q shard ≡ applied
    pub risen : least p shard ≤ applied
    pub elsewhere : (s : ℕ) → s ≢ shard → least q s ≡ least p s

  -- what the pass that has the board may add to the history: it stays lawful, the event is that caller's or nobody's, and each shard is known to have applied what the event asks for
  pub record MayAdd (lawful : List E → Type 0) (asks : E → ℕ) (caller : E → Option ℕ) (cells : CellsState K) (p : PassState I E K) (e : E) : Type 0 where
    pub law : lawful (p.seen ++ e ∷ [])
    pub maker : MayCall (caller e) p.callers
    pub applied : (s : ℕ) → s < cells.shards → asks e ≤ least p s

module _ {B S E K : Type 0} where
  -- the pass holds the board, which was this when it was taken
  abbrev pub HasBoard : PassState (Item B S) E K → B → Type 0
  HasBoard p b = p.hand ≡ Has 0 (item.Board b) None

  -- the pass holds the shard with this number, which was this when it was taken
  abbrev pub HasShard : PassState (Item B S) E K → ℕ → S → Type 0
  HasShard p s x = p.hand ≡ Has (s + 1) (item.Shard x) None

-- what a pass finds that takes a shard: the shard is right after a history that begins with what the pass has seen and has no other event of its callers
pub record IsFound {I E K S : Type 0} (lawful : List E → Type 0) (holds : List E → ℕ → ℕ → S → Type 0) (caller : E → Option ℕ) (shard : ℕ) (x : S) (p q : PassState I E K) : Type 0 where
  pub log : List E
  pub applied : ℕ
  pub begins : IsPrefix p.seen log
  pub law : lawful log
  pub own : IsOwn caller p log
  pub is : holds log shard applied x
  pub small : applied < 2 ^ 63
  pub reached : HasReached shard applied p q

-- what is owed of a shard that goes back: after each history that may be by then it is right if it was, with the same number of changes applied or one more
abbrev pub IsStep : {E S : Type 0} → (List E → Type 0) → (List E → ℕ → ℕ → S → Type 0) → List E → ℕ → S → ℕ → S → Type 0
IsStep lawful holds seen shard x applied y = (log : List _) (a : ℕ) → lawful log → IsPrefix seen log → holds log shard a x
    → holds log shard applied y × ((applied ≡ a) ⊎ (applied ≡ a + 1))

-- the same of the shard that the pass holds
abbrev pub MayLeave : {B S E K : Type 0} → (List E → Type 0) → (List E → ℕ → ℕ → S → Type 0) → PassState (Item B S) E K → ℕ → ℕ → S → Type 0
MayLeave lawful holds p shard applied y = (x : _) → HasShard p shard x → IsStep lawful holds p.seen shard x applied y

-- shards that have applied nothing, before any event
abbrev pub AreFresh : {E S : Type 0} → (List E → ℕ → ℕ → S → Type 0) → ℕ → List S → Type 0
AreFresh holds s [] = Unit {0}
AreFresh holds s (x ∷ xs) = holds [] s 0 x × AreFresh holds (s + 1) xs
