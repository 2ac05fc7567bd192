-- Rows of spots in one file, each so many tokens after the one before it.
use Rattle.std.specs.Prelude.{◌≡◌, ℕ, zero, suc, ◌+◌, ◌*◌, ◌^◌, ◌<◌, ◌≤◌, List, [], ◌∷◌, ◌++◌, length, slice_index_or}
use Rattle.cq_base.specs.declared.group.Place.{Place}
use Rattle.cq_groups.specs.declared.spots.Spot.{Spot}
use Rattle.cq_groups.specs.declared.spots.Row.{Row}

-- so many tokens after a place
abbrev pub further : Place → ℕ → Place
further p n = record { file = p.file; at = p.at + n }

-- a place with a mark
abbrev pub spot_at : Place → ℕ → Spot
spot_at p left = record { place = p; left = left }

-- so many spots, the first one a gap after the place, and each a gap after the one before it
abbrev pub behind : ℕ → Place → ℕ → ℕ → List Spot
behind zero p gap left = []
behind (suc n) p gap left = spot_at (further p gap) left ∷ behind n (further p gap) gap left

-- the spots of a row
abbrev pub row_spots : Row → List Spot
row_spots r = r.first ∷ behind r.others r.first.place r.gap r.left

-- the spots of rows, those of one after those of the other
abbrev pub all_of : List Row → List Spot
all_of [] = []
all_of (r ∷ rs) = row_spots r ++ all_of rs

-- each spot of the row is within a word of `depth` tokens at the one before it
pub record IsSteps (depth : ℕ) (r : Row) : Type 0 where
  pub some : 0 < r.gap
  pub reach : r.gap ≤ depth
  pub inside : r.first.place.at + r.others * r.gap < 2 ^ 32

-- that is so, if the row has several
abbrev pub IsRow : ℕ → Row → Type 0
IsRow depth r = 0 < r.others → IsSteps depth r

-- the next row begins a gap after the last spot of a row of several
pub record IsFollowed (depth : ℕ) (rows : List Row) (i : ℕ) (d : Row) : Type 0 where
  pub steps : IsSteps depth (slice_index_or rows i d)
  pub within : i + 1 < length rows
  pub file : (slice_index_or rows i d).first.place.file ≡ (slice_index_or rows (i + 1) d).first.place.file
  pub at : (slice_index_or rows i d).first.place.at + ((slice_index_or rows i d).others + 1) * (slice_index_or rows i d).gap ≡ (slice_index_or rows (i + 1) d).first.place.at

-- it does after each of them
abbrev pub AreRows : ℕ → List Row → Type 0
AreRows depth rows = (i : ℕ) (d : Row) → i < length rows → 0 < (slice_index_or rows i d).others → IsFollowed depth rows i d
