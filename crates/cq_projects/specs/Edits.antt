-- What an edit makes of a project.
use Rattle.std.specs.Prelude.{◌≡◌, ℕ, List, Option, None, if◌then◌else◌}
use Rattle.std.specs.Arc.{arc_value}
use Rattle.std.specs.declared.sync.Arc.{Arc}
use Rattle.std.specs.declared.alloc.Global.{Global}
use Rattle.std.specs.Str.{bytes_eq}
use Rattle.cq_base.specs.declared.change.Condition.{Condition}
use Rattle.cq_history.specs.Files.{File, with_file, without_file, number_at}
use Rattle.cq_projects.specs.declared.projects.ProjectEdit.{ProjectEdit}
use Rattle.cq_projects.specs.declared.projects.ProjectEdit.TheVariants.{Put, Drop, Gate}
use Rattle.cq_projects.specs.Projects.{path_in, ListedProject, files_in, conditions_in, position_of, projects_in}
use Rattle.cq_projects.specs.Spotted.{AreOlder}

module _ {W : Type 0} where
  abbrev pub edited_files : ProjectEdit W → List (File W) → List (File W)
  edited_files (Put held) files = with_file (arc_value held) files
  edited_files (Drop path) files = without_file (arc_value path) files
  edited_files (Gate conditions) files = files

  abbrev pub edited_conditions : ProjectEdit W → List Condition → List Condition
  edited_conditions (Put held) old = old
  edited_conditions (Drop path) old = old
  edited_conditions (Gate conditions) old = arc_value conditions

  -- the number of the change whose file is replaced or dropped
  abbrev pub replaced_by : ProjectEdit W → List (File W) → Option ℕ
  replaced_by (Put held) files = number_at (path_in held) files
  replaced_by (Drop path) files = number_at (arc_value path) files
  replaced_by (Gate conditions) files = None

  -- of each name they have the same files, and the same conditions
  abbrev pub SameFilesByName : List (ListedProject W) → List (ListedProject W) → Type 0
  SameFilesByName old new = (q : List ℕ) → files_in new q ≡ files_in old q

  abbrev pub SameConditionsByName : List (ListedProject W) → List (ListedProject W) → Type 0
  SameConditionsByName old new = (q : List ℕ) → conditions_in new q ≡ conditions_in old q

  -- the same of projects that have owners
  abbrev pub HaveSameFiles : List (Arc (ListedProject W) Global) → List (Arc (ListedProject W) Global) → Type 0
  HaveSameFiles old new = SameFilesByName (projects_in old) (projects_in new)

  abbrev pub HaveSameConditions : List (Arc (ListedProject W) Global) → List (Arc (ListedProject W) Global) → Type 0
  HaveSameConditions old new = SameConditionsByName (projects_in old) (projects_in new)

  -- the index of a project among those that have owners, or how many there are
  abbrev pub owned_position : List ℕ → List (Arc (ListedProject W) Global) → ℕ
  owned_position q owners = position_of q (projects_in owners)

  -- the project has the files, or the conditions, that an edit makes of what it had
  abbrev pub EditsProjectFiles : ProjectEdit W → ListedProject W → ListedProject W → Type 0
  EditsProjectFiles edit old new = new.files ≡ edited_files edit old.files

  abbrev pub EditsProjectConditions : ProjectEdit W → ListedProject W → ListedProject W → Type 0
  EditsProjectConditions edit old new = new.conditions ≡ edited_conditions edit old.conditions

  -- the same of a project that has an owner
  abbrev pub EditsOwnerFiles : ProjectEdit W → Arc (ListedProject W) Global → Arc (ListedProject W) Global → Type 0
  EditsOwnerFiles edit old new = EditsProjectFiles edit (arc_value old) (arc_value new)

  abbrev pub EditsOwnerConditions : ProjectEdit W → Arc (ListedProject W) Global → Arc (ListedProject W) Global → Type 0
  EditsOwnerConditions edit old new = EditsProjectConditions edit (arc_value old) (arc_value new)

  -- the number is that of the change whose file the edit replaces or drops in the project of this name, if there is one
  abbrev pub IsReplacedIn : ProjectEdit W → List ℕ → List (ListedProject W) → Option ℕ → Type 0
  IsReplacedIn edit name projects number = number ≡ replaced_by edit (files_in projects name)

  -- the same among projects that have owners
  abbrev pub IsReplacedInOwned : ProjectEdit W → List ℕ → List (Arc (ListedProject W) Global) → Option ℕ → Type 0
  IsReplacedInOwned edit name owners number = IsReplacedIn edit name (projects_in owners) number

  -- the project of this name has the files, or the conditions, that an edit makes of what it had, and each other one what
  -- it had
  abbrev pub EditsFiles : List ℕ → ProjectEdit W → List (ListedProject W) → List (ListedProject W) → Type 0
  EditsFiles name edit old new = (q : List ℕ) → files_in new q ≡ (if bytes_eq q name then edited_files edit (files_in old q) else files_in old q)

  abbrev pub EditsConditions : List ℕ → ProjectEdit W → List (ListedProject W) → List (ListedProject W) → Type 0
  EditsConditions name edit old new = (q : List ℕ) → conditions_in new q ≡ (if bytes_eq q name then edited_conditions edit (conditions_in old q) else conditions_in old q)

  -- the same of projects that have owners
  abbrev pub EditsOwnedFiles : List ℕ → ProjectEdit W → List (Arc (ListedProject W) Global) → List (Arc (ListedProject W) Global) → Type 0
  EditsOwnedFiles name edit old new = EditsFiles name edit (projects_in old) (projects_in new)

  abbrev pub EditsOwnedConditions : List ℕ → ProjectEdit W → List (Arc (ListedProject W) Global) → List (Arc (ListedProject W) Global) → Type 0
  EditsOwnedConditions name edit old new = EditsConditions name edit (projects_in old) (projects_in new)

  -- a file that it puts was put by a later change than all that are there
  abbrev pub IsNewer : ProjectEdit W → List (File W) → Type 0
  IsNewer (Put held) files = AreOlder (arc_value held).number files
  IsNewer (Drop path) files = Unit {0}
  IsNewer (Gate conditions) files = Unit {0}
