-- Two lists of the same files, with different things kept of each.
use Rattle.std.specs.Prelude.{◌≡◌, List, [], ◌∷◌}
use Rattle.cq_base.specs.declared.lang.Lang.{Lang}
use Rattle.cq_history.specs.Files.{File}

-- the same path, number and language, and what is kept of it fits
pub record IsSameFile {X Y : Type 0} (Body : Lang → X → Y → Type 0) (x : File X) (y : File Y) : Type 0 where
  pub path : x.path ≡ y.path
  pub number : x.number ≡ y.number
  pub lang : x.lang ≡ y.lang
  pub body : Body x.lang x.body y.body

abbrev pub AreSameFiles : {X Y : Type 0} → (Lang → X → Y → Type 0) → List (File X) → List (File Y) → Type 0
AreSameFiles Body [] [] = Unit {0}
AreSameFiles Body (x ∷ xs) (y ∷ ys) = IsSameFile Body x y × AreSameFiles Body xs ys
AreSameFiles Body [] (y ∷ ys) = ⊥
AreSameFiles Body (x ∷ xs) [] = ⊥
