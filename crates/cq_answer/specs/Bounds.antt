-- What is so of the files of any version, with the works of their texts.
use Rattle.std.specs.Prelude.{◌≡◌, ◌≢◌, ◌≤◌, ℕ, List, true, length, All, AllPairs}
use Rattle.std.specs.List.{AllByRecursion}
use Rattle.std.specs.Str.{IsUtf8}
use Rattle.cq_base.specs.Changes.{IsSoundChange}
use Rattle.cq_base.specs.declared.change.Change.{Change}
use Rattle.cq_base.specs.declared.change.Condition.{Condition}
use Rattle.cq_base.specs.declared.settings.Settings.{Settings}
use Rattle.cq_history.specs.Files.{File}
use Rattle.cq_projects.specs.Ordered.{AreRising}
use Rattle.cq_request.specs.Named.{IsNamed}
use Rattle.cq_names.specs.Names.{is_path_text}
use Rattle.cq_work.specs.Bounds.{IsBounded}
use Rattle.cq_work.specs.declared.work.Work.{Work}
use Rattle.cq_answer.specs.Versions.{AreOfVersion}
use Rattle.cq_answer.specs.Works.{numbers_in}

-- a file: one of this many changes put it, its path is UTF-8, and its work is within its bounds
pub record IsFileOf {L : Type 0} (set : Settings) (version : ℕ) (f : File (Work L)) : Type 0 where
  pub utf8 : IsUtf8 f.path
  pub first_change : 1 ≤ f.number
  pub last_change : f.number ≤ version
  pub lang : f.body.lang ≡ f.lang
  pub work : IsBounded set f.body

-- those of a project: no more than changes, in the order of their paths, each put by a change of its own
pub record AreFilesOf {L : Type 0} (set : Settings) (version : ℕ) (files : List (File (Work L))) : Type 0 where
  pub few : length files ≤ version
  pub each : AllByRecursion (IsFileOf set version) files
  pub rising : AreRising (λ (f : File (Work L)). f.path) files
  pub apart : AllPairs (λ a b. a ≢ b) (numbers_in files)

-- ---- the laws

-- the files at a version of sound changes are such
abbrev pub VersionsAreBounded : Type 0 → Type 0
VersionsAreBounded L = (set : Settings) (changes : List Change) (version : ℕ) (project : List ℕ) (files : List (File (Work L))) (conditions : List Condition)
    → All IsSoundChange changes → AreOfVersion set changes version project files conditions → AreFilesOf set version files

-- and if each change is named, each has the path of a file
abbrev pub PathsAreNamed : Type 0 → Type 0
PathsAreNamed L = (set : Settings) (changes : List Change) (version : ℕ) (project : List ℕ) (files : List (File (Work L))) (conditions : List Condition)
    → All IsNamed changes → AreOfVersion set changes version project files conditions → AllByRecursion (λ (f : File (Work L)). is_path_text f.path ≡ true) files
