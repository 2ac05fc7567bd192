-- Where each change of a list is.
use Rattle.std.specs.Prelude.{◌≡◌, ◌↔◌, ◌<◌, ◌==◌, ℕ, ◌+◌, ◌-◌, Bool, nat_lt, List, [], ◌∷◌, length, map, get_or, slice_get, slice_set, insert, remove, Option, Some, None, All, AllPairs, if◌then◌else◌}
use Rattle.cq_order.specs.declared.spots.Spot.{Spot}

-- by change
abbrev pub SpotBefore : Spot → Spot → Type 0
SpotBefore a b = a.change < b.change

-- the file of a change among the spots
abbrev pub spot_of : List Spot → ℕ → Option ℕ
spot_of [] change = None
spot_of (s ∷ spots) change = if s.change == change then Some s.file else spot_of spots change

-- the position of a change, and none exactly if the list doesn't have it
abbrev pub IsPositionOf : List ℕ → ℕ → Option ℕ → Type 0
IsPositionOf changes change position = (file : ℕ) → (position ≡ Some file) ↔ (slice_get changes file ≡ Some change)

-- The spots are strictly rising by change, and are exactly the pairs of a change of the list and its position. (So no
-- change is in the list twice.)
pub record AreSpots (changes : List ℕ) (spots : List Spot) : Type 0 where
  pub rising : AllPairs SpotBefore spots
  pub each : (change : ℕ) → IsPositionOf changes change (spot_of spots change)

-- it is the position of the change in whichever list these are the spots of
abbrev pub IsPositionBySpots : List Spot → ℕ → Option ℕ → Type 0
IsPositionBySpots spots change position = (changes : List ℕ) → AreSpots changes spots → IsPositionOf changes change position

-- the test of the order
abbrev pub is_spot_before : Spot → Spot → Bool
is_spot_before a b = nat_lt a.change b.change

-- the changes with their positions, of which the first is `file`
abbrev pub with_positions : ℕ → List ℕ → List Spot
with_positions file [] = []
with_positions file (change ∷ changes) = record { change = change; file = file } ∷ with_positions (file + 1) changes

-- By change, from 0, each has its position in the list, if that is one of this many at the front.
abbrev pub AreTheirPositions : ℕ → List ℕ → List (Option ℕ) → Type 0
AreTheirPositions n changes positions = (change file : ℕ) → (get_or positions change None ≡ Some file) ↔ ((file < n) × (slice_get changes file ≡ Some change))

-- the same of all of the list
abbrev pub AreAllTheirPositions : List ℕ → List (Option ℕ) → Type 0
AreAllTheirPositions changes positions = AreTheirPositions (length changes) changes positions

-- the spots that positions by change are, of which the first is that of this change
abbrev pub spots_by_change : ℕ → List (Option ℕ) → List Spot
spots_by_change change [] = []
spots_by_change change (None ∷ positions) = spots_by_change (change + 1) positions
spots_by_change change (Some file ∷ positions) = record { change = change; file = file } ∷ spots_by_change (change + 1) positions

-- changes with their positions, when both are kept apart
abbrev pub paired : List ℕ → List ℕ → List Spot
paired [] files = []
paired (change ∷ changes) [] = []
paired (change ∷ changes) (file ∷ files) = record { change = change; file = file } ∷ paired changes files

abbrev pub changes_of : List Spot → List ℕ
changes_of spots = map (λ (s : Spot). s.change) spots

-- ---- the spots if one file is edited, whatever the numbers of the files' changes are

-- the spot's change, which is the latest, takes the place of this one
abbrev pub Replaces : ℕ → Spot → List Spot → List Spot → Type 0
Replaces gone s old new = (changes : List ℕ) → AreSpots changes old → slice_get changes s.file ≡ Some gone → All (λ c. c < s.change) changes → AreSpots (slice_set changes s.file s.change) new

-- the spot's change, which is the latest, is put in at its file among this many
abbrev pub Inserts : ℕ → Spot → List Spot → List Spot → Type 0
Inserts len s old new = (changes : List ℕ) → AreSpots changes old → length changes ≡ len → All (λ c. c < s.change) changes → AreSpots (insert changes s.file s.change) new

-- the spot is taken out with its file
abbrev pub Removes : Spot → List Spot → List Spot → Type 0
Removes s old new = (changes : List ℕ) → AreSpots changes old → slice_get changes s.file ≡ Some s.change → AreSpots (remove changes s.file) new

-- the new position of a file, when one is put in at a position or taken out there
abbrev pub opened : ℕ → ℕ → ℕ
opened at file = if nat_lt file at then file else file + 1

abbrev pub closed : ℕ → ℕ → ℕ
closed at file = if nat_lt at file then file - 1 else file
