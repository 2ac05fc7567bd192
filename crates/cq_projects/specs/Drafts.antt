-- What the changes of a batch make of a project's files: a file, or none, at each path that they name.
use Rattle.std.specs.Prelude.{◌≡◌, ℕ, ◌+◌, List, [], ◌∷◌, ◌++◌, length, map, take, option_map, unwrap_or, IfSome, Option, None, Some, Vec}
use Rattle.std.specs.Arc.{arc_value}
use Rattle.std.specs.List.{AllByRecursion}
use Rattle.std.specs.declared.sync.Arc.{Arc}
use Rattle.std.specs.declared.alloc.Global.{Global}
use Rattle.cq_base.specs.declared.change.Condition.{Condition}
use Rattle.cq_history.specs.Files.{File, with_file, without_file}
use Rattle.cq_projects.specs.declared.merging.Named.{Named}
use Rattle.cq_projects.specs.Projects.{ListedProject, path_of}
use Rattle.cq_projects.specs.Ordered.{AreAbove, AreBelow}

module _ {W : Type 0} where
  -- the files that these owners hold
  abbrev pub held_in : List (Arc (File W) Global) → List (File W)
  held_in owners = map arc_value owners

  -- the files with what is to be at a path: a file, or none
  abbrev pub edited_at : List ℕ → Option (Arc (File W) Global) → List (File W) → List (File W)
  edited_at p None files = without_file p files
  edited_at p (Some held) files = with_file (arc_value held) files

  -- the files with what is to be at each of these paths
  abbrev pub edited_all : List (Arc (List ℕ) Global × Option (Arc (File W) Global)) → List (File W) → List (File W)
  edited_all [] files = files
  edited_all (e ∷ es) files = edited_at (arc_value e.0) e.1 (edited_all es files)

  -- the file, if there is one, is at the path
  abbrev pub IsOwn : List ℕ → Option (Arc (File W) Global) → Type 0
  IsOwn p file = IfSome file (λ held. (arc_value held).path ≡ p)

  abbrev pub AreOwn : List (Arc (List ℕ) Global × Option (Arc (File W) Global)) → Type 0
  AreOwn es = AllByRecursion (λ (e : Arc (List ℕ) Global × Option (Arc (File W) Global)). IsOwn (arc_value e.0) e.1) es

  -- the number of the change that put the file
  abbrev pub number_in : Arc (File W) Global → ℕ
  number_in held = (arc_value held).number

  -- another file, or none, is at the path
  pub record IsSetAt (p : List ℕ) (file : Option (Arc (File W) Global)) (old new : ListedProject W) : Type 0 where
    pub name : new.name ≡ old.name
    pub files : new.files ≡ edited_at p file old.files
    pub conditions : new.conditions ≡ old.conditions

  abbrev pub one_or_none : Option (Arc (File W) Global) → List (File W)
  one_or_none None = []
  one_or_none (Some held) = arc_value held ∷ []

  -- Files in path order are cut at a path: this many are before it, and this many with the one that is there.
  pub record IsCut (p : List ℕ) (files : List (File W)) (before behind : ℕ) : Type 0 where
    pub low : List (File W)
    pub same : List (File W)
    pub high : List (File W)
    pub is : files ≡ low ++ (same ++ high)
    pub before_is : length low ≡ before
    pub behind_is : length low + length same ≡ behind
    pub low_below : AreBelow path_of p low
    pub same_at : AllByRecursion (λ (f : File W). f.path ≡ p) same
    pub high_above : AreAbove path_of p high

  -- After the files that are done come those of the rest before the path, and what is to be there; those after it are
  -- left.
  pub record Merges (p : List ℕ) (file : Option (Arc (File W) Global)) (done now rest left : List (File W)) : Type 0 where
    pub low : List (File W)
    pub same : List (File W)
    pub is : rest ≡ low ++ (same ++ left)
    pub now_is : now ≡ done ++ (low ++ one_or_none file)
    pub low_below : AreBelow path_of p low
    pub same_at : AllByRecursion (λ (f : File W). f.path ≡ p) same
    pub left_above : AreAbove path_of p left

  -- the files that are to be at the paths
  abbrev pub files_at : List (Arc (List ℕ) Global × Named W) → List (Arc (List ℕ) Global × Option (Arc (File W) Global))
  files_at entries = map (λ (e : Arc (List ℕ) Global × Named W). (e.0, e.1.file)) entries

  -- the files with what is to be at each of the named paths
  abbrev pub edited_named : List (Arc (List ℕ) Global × Named W) → List (File W) → List (File W)
  edited_named entries files = edited_all (files_at entries) files

  -- they are the files with what is to be at each of the named paths
  abbrev pub AreMerged : List (Arc (List ℕ) Global × Named W) → List (Arc (File W) Global) → Vec (Arc (File W) Global) Global → Type 0
  AreMerged entries files all = held_in all.items ≡ edited_named entries (held_in files)

  -- of each path it is kept at which place the files are cut
  abbrev pub AreCut : List (File W) → List (Arc (List ℕ) Global × Named W) → Type 0
  AreCut files entries = AllByRecursion (λ (e : Arc (List ℕ) Global × Named W). IsCut (arc_value e.0) files e.1.before e.1.behind) entries

  -- after the files that are done come this many of the rest, and what is to be at a path
  abbrev pub Joins : ℕ → Option (Arc (File W) Global) → List (Arc (File W) Global) → List (Arc (File W) Global) → List (Arc (File W) Global) → Type 0
  Joins before file rest done now = map arc_value now ≡ map arc_value done ++ (map arc_value (take before rest) ++ one_or_none file)

  -- the project has at the named paths what is to be there, and the conditions if there are any
  abbrev pub IsRevised : List (Arc (List ℕ) Global × Named W) → Option (Arc (List Condition) Global) → ListedProject W → ListedProject W → Type 0
  IsRevised entries conditions old new = new ≡ record { name = old.name; files = edited_named entries old.files; conditions = unwrap_or (option_map arc_value conditions) old.conditions }

  -- the same of a project that has an owner
  abbrev pub IsOwnerRevised : List (Arc (List ℕ) Global × Named W) → Option (Arc (List Condition) Global) → Arc (ListedProject W) Global → Arc (ListedProject W) Global → Type 0
  IsOwnerRevised entries conditions old new = IsRevised entries conditions (arc_value old) (arc_value new)
