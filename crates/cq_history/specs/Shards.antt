-- What a shard holds of the changes: the windows of the puts that it has applied, but for those that its floor has passed.
use Rattle.std.specs.Prelude.{◌≡◌, ℕ, ◌<◌, ◌≤◌, ◌%◌, true, List, Some}
use Rattle.cq_base.specs.declared.lang.Lang.{Lang}
use Rattle.cq_base.specs.declared.change.Change.{Change}
use Rattle.cq_base.specs.declared.change.Change.TheVariants.{Put}
use Rattle.cq_history.specs.Changes.{change_at, is_of_file, IsNumber}

-- the key of a window, the change that put the text, and the place of the window
pub record Row : Type 0 where
  pub key : ℕ
  pub number : ℕ
  pub place : ℕ

-- no change of the file has a number above r and at most f
abbrev pub IsLastOfFile : List Change → List ℕ → List ℕ → ℕ → ℕ → Type 0
IsLastOfFile changes q p r f = (k : ℕ) (c : Change) → r < k → k ≤ f → change_at changes k ≡ Some c → is_of_file q p c ≡ true → ⊥

-- over a relation which says of a text that it has at a place a window with a key
module _ (IsWindow : Lang → List ℕ → ℕ → ℕ → Type 0) (shards : ℕ) (changes : List Change) where
  pub record ShardHolds (shard applied floor : ℕ) (row : Row) : Type 0 where
    pub project : List ℕ
    pub path : List ℕ
    pub lang : Lang
    pub text : List ℕ
    pub accepted : IsNumber changes row.number
    pub put : change_at changes row.number ≡ Some (Put project path lang text)
    pub applies : row.number ≤ applied
    pub window : IsWindow lang text row.place row.key
    pub mine : row.key % shards ≡ shard
    pub lives : IsLastOfFile changes project path row.number floor
