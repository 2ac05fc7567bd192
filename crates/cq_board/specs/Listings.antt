-- What a listing has: the files and the conditions of each project, and the numbers of all files' changes.
use Rattle.std.specs.Prelude.{◌≡◌, ◌↔◌, ℕ, List, Contains}
use Rattle.std.specs.List.Sorted.{IsStrictlyIncreasing}
use Rattle.cq_base.specs.declared.lang.Lang.{Lang}
use Rattle.cq_base.specs.declared.change.Change.{Change}
use Rattle.cq_history.specs.Files.{Source, files_of, conditions_of}
use Rattle.cq_history.specs.Standing.{Has}
use Rattle.cq_projects.specs.Projects.{ListedProject, name_in, files_in, conditions_in}
use Rattle.cq_projects.specs.Ordered.{AreRising}
use Rattle.cq_board.specs.Related.{AreSameFiles}

module _ {W : Type 0} where
  -- both have the same files and conditions of each project
  pub record HaveSame (old new : List (ListedProject W)) : Type 0 where
    pub files : (q : List ℕ) → files_in new q ≡ files_in old q
    pub conditions : (q : List ℕ) → conditions_in new q ≡ conditions_in old q

-- the number is that of a file of a project after the changes
abbrev pub IsLive : List Change → ℕ → Type 0
IsLive changes r = (q : List ℕ) × (f : Source) × Has (files_of q changes) f × (f.number ≡ r)

-- the numbers of all files' changes, in order
pub record AreLive (changes : List Change) (live : List ℕ) : Type 0 where
  pub rising : IsStrictlyIncreasing live
  pub each : (r : ℕ) → Contains live r ↔ IsLive changes r

-- what a listing is to its readers: its projects, and the numbers of their files' changes
pub record Listed (W : Type 0) : Type 0 where
  pub projects : List (ListedProject W)
  pub live : List ℕ

module _ {W : Type 0} where
  abbrev pub listed : List (ListedProject W) → List ℕ → Listed W
  listed projects live = record { projects = projects; live = live }

  -- the projects are those after the changes, by name, each file with its work
  pub record IsListing (IsWork : Lang → List ℕ → W → Type 0) (changes : List Change) (l : Listed W) : Type 0 where
    pub names : AreRising name_in l.projects
    pub files : (q : List ℕ) → AreSameFiles IsWork (files_of q changes) (files_in l.projects q)
    pub conditions : (q : List ℕ) → conditions_in l.projects q ≡ conditions_of q changes
    pub numbers : AreLive changes l.live

  -- whatever changes the one is the listing of, so is the other
  abbrev pub ListsTheSame : (Lang → List ℕ → W → Type 0) → Listed W → Listed W → Type 0
  ListsTheSame IsWork old new = (changes : List Change) → IsListing IsWork changes old → IsListing IsWork changes new
