-- What projects are to their readers: by name, each with its files and conditions.
use Rattle.std.specs.Prelude.{ℕ, List, [], ◌∷◌, map, if◌then◌else◌}
use Rattle.std.specs.Arc.{arc_value}
use Rattle.std.specs.declared.sync.Arc.{Arc}
use Rattle.std.specs.declared.alloc.Global.{Global}
use Rattle.std.specs.List.{position_or_len}
use Rattle.std.specs.Str.{bytes_eq}
use Rattle.cq_base.specs.declared.change.Condition.{Condition}
use Rattle.cq_history.specs.Files.{File}

abbrev pub path_of : {X : Type 0} → File X → List ℕ
path_of f = f.path

-- what a project is to its readers: its name, its files in path order, each with its work, and the conditions of its last
-- gate, none before its first
pub record ListedProject (W : Type 0) : Type 0 where
  pub name : List ℕ
  pub files : List (File W)
  pub conditions : List Condition

module _ {W : Type 0} where
  abbrev pub path_in : Arc (File W) Global → List ℕ
  path_in h = (arc_value h).path

  abbrev pub name_in : ListedProject W → List ℕ
  name_in p = p.name

  abbrev pub files_in : List (ListedProject W) → List ℕ → List (File W)
  files_in [] q = []
  files_in (p ∷ ps) q = if bytes_eq q p.name then p.files else files_in ps q

  abbrev pub conditions_in : List (ListedProject W) → List ℕ → List Condition
  conditions_in [] q = []
  conditions_in (p ∷ ps) q = if bytes_eq q p.name then p.conditions else conditions_in ps q

  -- the index of a project, or how many there are
  abbrev pub position_of : List ℕ → List (ListedProject W) → ℕ
  position_of q ps = position_or_len (λ (p : ListedProject W). bytes_eq q p.name) ps

  abbrev pub owner_name : Arc (ListedProject W) Global → List ℕ
  owner_name p = name_in (arc_value p)

  abbrev pub owner_files : Arc (ListedProject W) Global → List (File W)
  owner_files p = (arc_value p).files

  abbrev pub owner_conditions : Arc (ListedProject W) Global → List Condition
  owner_conditions p = (arc_value p).conditions

  abbrev pub projects_in : List (Arc (ListedProject W) Global) → List (ListedProject W)
  projects_in owners = map arc_value owners

  abbrev pub owned_files : List (Arc (ListedProject W) Global) → List ℕ → List (File W)
  owned_files owners q = files_in (projects_in owners) q
