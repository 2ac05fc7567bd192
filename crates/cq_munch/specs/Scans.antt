-- How far a scan has come.
use Rattle.std.specs.Prelude.{ℕ, ◌↔◌, Option, List, ◌++◌, take}
use Rattle.cq_munch.specs.Longest.{LongestAt}

-- a scan has read i characters: rest is what continues from its state, and found the longest spelling so far
pub record Scanned (set rest : List ℕ → Type 0) (text : List ℕ) (i : ℕ) (found : Option ℕ) : Type 0 where
  pub goes : (s : List ℕ) → set (take i text ++ s) ↔ rest s
  pub best : LongestAt set (take i text) found
