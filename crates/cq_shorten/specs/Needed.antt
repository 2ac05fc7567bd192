-- Which changes of a log its last version needs: the last put of each file that exists, and the last gate of each project.
use Rattle.std.specs.Prelude.{◌≡◌, ℕ, ◌-◌, List, [], length, map, slice_index_or}
use Rattle.cq_base.specs.declared.change.Change.{Change}
use Rattle.cq_history.specs.Changes.{no_change}
use Rattle.cq_history.specs.Files.{Source, files_of, conditions_of}
use Rattle.cq_history.specs.Gone.{kept_numbers}

-- their numbers, ascending: what a floor at the last change keeps
abbrev pub needed : List Change → List ℕ
needed changes = kept_numbers changes (length changes)

-- these changes, and the line of each
abbrev pub needed_changes : List Change → List Change
needed_changes changes = map (λ (number : ℕ). slice_index_or changes (number - 1) no_change) (needed changes)

abbrev pub needed_lines : List Change → List (List ℕ) → List (List ℕ)
needed_lines changes own = map (λ (number : ℕ). slice_index_or own (number - 1) []) (needed changes)

-- a file without the number of the change that put it
abbrev pub unnumbered : Source → Source
unnumbered f = record { path = f.path; number = 0; lang = f.lang; body = f.body }

-- in a project
pub record LeavesTheSame (changes : List Change) (project : List ℕ) : Type 0 where
  pub files : map unnumbered (files_of project (needed_changes changes)) ≡ map unnumbered (files_of project changes)
  pub conditions : conditions_of project (needed_changes changes) ≡ conditions_of project changes

abbrev pub WhatIsNeededLeavesTheSame : Type 0
WhatIsNeededLeavesTheSame = (changes : List Change) (project : List ℕ) → LeavesTheSame changes project
