-- Rows of a table: a place stands for the first elements of a list, as many as its number, and is set or not.
use Rattle.std.specs.Prelude.{◌&&◌, ◌||◌, List, [], ◌∷◌, Bool, false, if◌then◌else◌}

-- the first place as it is said, and no other is set
abbrev pub begun : Bool → List Bool → List Bool
begun first [] = []
begun first (r ∷ rs) = first ∷ begun false rs

-- each place from one that is set on
abbrev pub spread : Bool → List Bool → List Bool
spread before [] = []
spread before (r ∷ rs) = (before || r) ∷ spread (before || r) rs

-- each place after one that is set, if the element between them passes; what comes before the row is given
abbrev pub passed : {X : Type 0} → (X → Bool) → Bool → List Bool → List X → List Bool
passed passes before [] xs = []
passed passes before (r ∷ rs) [] = before ∷ rs
passed passes before (r ∷ rs) (x ∷ xs) = before ∷ passed passes (r && passes x) rs xs

-- the row after a star, or after what one element passes
abbrev pub advanced : {X : Type 0} → Bool → (X → Bool) → List Bool → List X → List Bool
advanced is_star passes row xs = if is_star then spread false row else passed passes false row xs
