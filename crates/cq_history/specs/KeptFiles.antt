-- The kept changes are enough: they give the files and the conditions of each version from the floor on.
use Rattle.std.specs.Prelude.{◌≡◌, ℕ, ◌+◌, ◌≤◌, not, List, [], ◌∷◌, take, filter}
use Rattle.cq_base.specs.declared.change.Change.{Change}
use Rattle.cq_base.specs.declared.change.Condition.{Condition}
use Rattle.cq_history.specs.Files.{Source, files_after, files_at, conditions_after, conditions_at}
use Rattle.cq_history.specs.Gone.{is_gone}

-- the changes, each with its number, if the first has this one
abbrev pub numbered : ℕ → List Change → List (ℕ × Change)
numbered number [] = []
numbered number (c ∷ cs) = (number, c) ∷ numbered (number + 1) cs

-- what changes, each with its number, make of a project's files
abbrev pub files_by : List ℕ → List Source → List (ℕ × Change) → List Source
files_by q files [] = files
files_by q files (c ∷ cs) = files_by q (files_after q c.0 files c.1) cs

-- and of its conditions
abbrev pub conditions_by : List ℕ → List Condition → List (ℕ × Change) → List Condition
conditions_by q old [] = old
conditions_by q old (c ∷ cs) = conditions_by q (conditions_after q old c.1) cs

-- the changes up to a version that the floor keeps, each with its number
abbrev pub kept_up_to : List Change → ℕ → ℕ → List (ℕ × Change)
kept_up_to changes floor version = filter (λ (c : ℕ × Change). not (is_gone changes floor c.0)) (numbered 1 (take version changes))

-- the kept changes leave the files of each version from the floor on
abbrev pub KeptLeaveTheFiles : Type 0
KeptLeaveTheFiles = (changes : List Change) (floor version : ℕ) (project : List ℕ) → floor ≤ version → files_by project [] (kept_up_to changes floor version) ≡ files_at changes version project

-- and its conditions
abbrev pub KeptLeaveTheConditions : Type 0
KeptLeaveTheConditions = (changes : List Change) (floor version : ℕ) (project : List ℕ) → floor ≤ version → conditions_by project [] (kept_up_to changes floor version) ≡ conditions_at changes version project
