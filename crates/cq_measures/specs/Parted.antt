-- The places of groups, parted among the files, and what those of each file come to.
use Rattle.std.specs.Prelude.{◌≡◌, ℕ, ◌+◌, ◌-◌, ◌<◌, ◌≤◌, ◌==◌, ◌^◌, List, [], ◌++◌, length, map, filter, Vec, slice_index_or, All}
use Rattle.std.specs.List.{flat_map}
use Rattle.std.specs.declared.alloc.Global.{Global}
use Rattle.cq_base.specs.declared.group.Place.{Place}
use Rattle.cq_base.specs.declared.group.Group.{Group}
use Rattle.cq_base.specs.declared.token.Token.{Token}
use Rattle.cq_measures.specs.declared.counting.Tally.{Tally}
use Rattle.cq_measures.specs.declared.extent.Extent.{Extent}
use Rattle.cq_measures.specs.declared.extent.FileLines.{FileLines}
use Rattle.cq_measures.specs.declared.parting.Run.{Run}
use Rattle.cq_measures.specs.Counts.{IsTallyOf}
use Rattle.cq_measures.specs.Measures.{span_at, spans_of}

-- the places of a group that are in a file
abbrev pub group_runs : ℕ → ℕ → List Place → List Run
group_runs file tokens places = map (λ p. record { at = p.at; tokens = tokens }) (filter (λ p. p.file == file) places)

-- those of all groups
abbrev pub runs_in : ℕ → List Group → List Run
runs_in file groups = flat_map (λ g. group_runs file g.tokens g.places) groups

abbrev pub part_at : List (Vec Run Global) → ℕ → List Run
part_at parts i = slice_index_or (map (λ part. part.items) parts) i []

-- those of one more group come after the old ones
abbrev pub AddsRuns : ℕ → Group → List Run → List Run → Type 0
AddsRuns file g old new = new ≡ old ++ group_runs file g.tokens g.places

-- a list for each file
pub record AreParted (files : ℕ) (groups : List Group) (parts : List (Vec Run Global)) : Type 0 where
  pub number_is : length parts ≡ files
  pub each : (i : ℕ) → i < files → part_at parts i ≡ runs_in i groups

-- each list has these more at its end
pub record AreLonger (more : ℕ → List Run) (old new : List (List Run)) : Type 0 where
  pub as_many : length new ≡ length old
  pub each : (i : ℕ) (d : List Run) → i < length old → slice_index_or new i d ≡ slice_index_or old i d ++ more i

-- the list of each file has the places of one more group in it at its end
abbrev pub AddsGroup : Group → List (Vec Run Global) → List (Vec Run Global) → Type 0
AddsGroup g old new = AreLonger (λ file. group_runs file g.tokens g.places) (map (λ part. part.items) old) (map (λ part. part.items) new)

abbrev pub ArePlacesBelow : ℕ → Group → Type 0
ArePlacesBelow files g = All (λ p. p.file < files) g.places

abbrev pub AreAllBelow : ℕ → List Group → Type 0
AreAllBelow files groups = All (ArePlacesBelow files) groups

-- ---- what those of a file come to

abbrev pub extent_of_run : List Token → ℕ → Run → Extent
extent_of_run spans file r = record { file = file; first = (span_at spans r.at).first_line; last = (span_at spans (r.at + r.tokens - 1)).last_line }

abbrev pub IsRunInside : List Token → Run → Type 0
IsRunInside spans r = (1 ≤ r.tokens) × (r.at + r.tokens ≤ length spans)

abbrev pub AreRunsInside : List Token → List Run → Type 0
AreRunsInside spans runs = All (IsRunInside spans) runs

abbrev pub spans_at : List FileLines → ℕ → List Token
spans_at files i = slice_index_or (spans_of files) i []

abbrev pub ArePartInside : List FileLines → List (Vec Run Global) → ℕ → Type 0
ArePartInside files parts i = AreRunsInside (spans_at files i) (part_at parts i)

-- no more lines than a file can have, and at most one file
abbrev pub IsSmallTally : Tally → Type 0
IsSmallTally t = (t.lines ≤ 2 ^ 32) × (t.files ≤ 1)

-- it is what the file's runs come to
pub record IsPartTally (files : List FileLines) (parts : List (Vec Run Global)) (i : ℕ) (t : Tally) : Type 0 where
  pub tally : IsTallyOf (map (extent_of_run (spans_at files i) i) (part_at parts i)) t
  pub small : IsSmallTally t

abbrev pub tally_at : List Tally → ℕ → Tally
tally_at tallies i = slice_index_or tallies i (record { lines = 0; extents = 0; files = 0 })

-- each is what the runs of its file come to
abbrev pub ArePartTallies : List FileLines → List (Vec Run Global) → List Tally → Type 0
ArePartTallies files parts tallies = (i : ℕ) → i < length files → IsPartTally files parts i (tally_at tallies i)

-- ---- what the files come to together

abbrev pub AreSmallTallies : List Tally → Type 0
AreSmallTallies tallies = All IsSmallTally tallies

-- each is what the extents in its file come to
abbrev pub AreTallies : List Extent → List Tally → Type 0
AreTallies extents tallies = (i : ℕ) → i < length tallies → IsTallyOf (filter (λ e. e.file == i) extents) (tally_at tallies i)
