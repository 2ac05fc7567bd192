-- The names that a change has.
use Rattle.std.specs.Prelude.{◌≡◌, ℕ, List, true, Ok}
use Rattle.cq_base.specs.declared.change.Change.{Change}
use Rattle.cq_base.specs.declared.change.Change.TheVariants.{Put, Drop, Gate}
use Rattle.cq_request.specs.declared.request.Request.TheVariants as request
use Rattle.cq_request.specs.Reading.{line_says}
use Rattle.cq_names.specs.Names.{is_path_text, is_project}

-- they are those of a project, and of a file if it is of one
abbrev pub IsNamed : Change → Type 0
IsNamed (Put project path lang text) = (is_project project ≡ true) × (is_path_text path ≡ true)
IsNamed (Drop project path) = (is_project project ≡ true) × (is_path_text path ≡ true)
IsNamed (Gate project conditions) = is_project project ≡ true

-- ---- the law

-- each change that a line says
abbrev pub ChangesAreNamed : Type 0
ChangesAreNamed = (chunk : ℕ) (line : List ℕ) (c : Change) → line_says chunk line ≡ Ok (request.Change c) → IsNamed c
