-- The files of one project with the spot of each change that put one.
use Rattle.std.specs.Prelude.{◌≡◌, ◌≢◌, ◌↔◌, ◌<◌, ◌^◌, ℕ, List, length, map, slice_get, Option, Some, All, AllPairs}
use Rattle.cq_history.specs.Files.{File}
use Rattle.cq_order.specs.declared.spots.Spot.{Spot}
use Rattle.cq_order.specs.Spots.{AreSpots}
use Rattle.cq_projects.specs.Projects.{path_of, ListedProject}
use Rattle.cq_projects.specs.Ordered.{AreRising}

module _ {W : Type 0} where
  -- the numbers of the changes that put the files
  abbrev pub numbers_of : List (File W) → List ℕ
  numbers_of files = map (λ (f : File W). f.number) files

  abbrev pub paths_of : List (File W) → List (List ℕ)
  paths_of files = map path_of files

  -- they are in path order, each was put by a change of its own, and the spots are those of these changes
  pub record AreSpotted (files : List (File W)) (spots : List Spot) : Type 0 where
    pub rising : AreRising path_of files
    pub are_spots : AreSpots (numbers_of files) spots
    pub few : length files < 2 ^ 32

  -- the position of the file at a path, and none exactly if there is none
  abbrev pub IsPositionOfPath : List (File W) → List ℕ → Option ℕ → Type 0
  IsPositionOfPath files path position = (i : ℕ) → (position ≡ Some i) ↔ (slice_get (paths_of files) i ≡ Some path)

  -- each file was put by a change of its own
  abbrev pub AreApartIn : List (File W) → Type 0
  AreApartIn files = AllPairs (λ a b. a ≢ b) (numbers_of files)

  abbrev pub AreApart : ListedProject W → Type 0
  AreApart project = AreApartIn project.files

  -- each was put by an earlier change than this one
  abbrev pub AreOlder : ℕ → List (File W) → Type 0
  AreOlder number files = All (λ n. n < number) (numbers_of files)
