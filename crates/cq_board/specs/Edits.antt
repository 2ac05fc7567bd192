-- The edit that a change asks for.
use Rattle.std.specs.Prelude.{◌≡◌, ℕ, List}
use Rattle.std.specs.Arc.{arc_value}
use Rattle.cq_base.specs.declared.lang.Lang.{Lang}
use Rattle.cq_base.specs.declared.change.Change.{Change}
use Rattle.cq_base.specs.declared.change.Change.TheVariants as change
use Rattle.cq_history.specs.Files.{Source}
pub use Rattle.cq_kept.specs.Slots.{put_by}
use Rattle.cq_board.specs.Related.{IsSameFile}
use Rattle.cq_projects.specs.declared.projects.ProjectEdit.{ProjectEdit}
use Rattle.cq_projects.specs.declared.projects.ProjectEdit.TheVariants.{Put, Drop, Gate}

module _ {W : Type 0} where
  -- the edit is what the change of this number asks for, with the work of its text
  abbrev pub IsEditFor : (Lang → List ℕ → W → Type 0) → ℕ → Change → ProjectEdit W → Type 0
  IsEditFor IsWork r (change.Put project path lang text) (Put held) =
      let f : Source = record { path = path; number = r; lang = lang; body = text } in IsSameFile IsWork f (arc_value held)
  IsEditFor IsWork r (change.Drop project path) (Drop p) = arc_value p ≡ path
  IsEditFor IsWork r (change.Gate project conditions) (Gate cs) = arc_value cs ≡ conditions
  IsEditFor IsWork r (change.Put project path lang text) (Drop p) = ⊥
  IsEditFor IsWork r (change.Put project path lang text) (Gate cs) = ⊥
  IsEditFor IsWork r (change.Drop project path) (Put held) = ⊥
  IsEditFor IsWork r (change.Drop project path) (Gate cs) = ⊥
  IsEditFor IsWork r (change.Gate project conditions) (Put held) = ⊥
  IsEditFor IsWork r (change.Gate project conditions) (Drop p) = ⊥

-- the project of a change
abbrev pub project_named : Change → List ℕ
project_named (change.Put project path lang text) = project
project_named (change.Drop project path) = project
project_named (change.Gate project conditions) = project
