-- What every accepted change has, and what is handed out of it.
use Rattle.std.specs.Prelude.{ℕ, ◌≤◌, List, length, All}
use Rattle.std.specs.Arc.{arc_value}
use Rattle.std.specs.Str.{IsUtf8}
use Rattle.cq_base.specs.Changes.{IsSoundChange}
use Rattle.cq_history.specs.State.{State, changes_in}
use Rattle.cq_board.specs.declared.answers.Job.{Job}
use Rattle.cq_projects.specs.Projects.{conditions_in, ListedProject}

-- each accepted change is sound
abbrev pub AreSound : State → Type 0
AreSound s = All IsSoundChange (changes_in s)

-- its text is UTF-8, of at most 1,048,576 bytes
abbrev pub HasSoundText : Job → Type 0
HasSoundText job = IsUtf8 (arc_value job.text) × (length (arc_value job.text) ≤ 1048576)

-- no project has more than 32 conditions
abbrev pub HaveFewConditions : {W : Type 0} → List (ListedProject W) → Type 0
HaveFewConditions projects = (q : List ℕ) → length (conditions_in projects q) ≤ 32
