-- The measures of a project, and of one file of it.
use Rattle.std.specs.Prelude.{◌≡◌, ℕ, ◌+◌, ◌-◌, ◌*◌, ◌/◌, ◌^◌, ◌<◌, ◌≤◌, ◌==◌, nat_eq, if◌then◌else◌, Bool, List, [], ◌∷◌, ◌++◌, length, map, filter, slice_index_or, All, Contains}
use Rattle.std.specs.List.{flat_map, list_any, range_with_len, sum_by}
use Rattle.cq_base.specs.declared.group.Place.{Place}
use Rattle.cq_base.specs.declared.group.Group.{Group}
use Rattle.cq_base.specs.declared.token.Class.TheVariants.{Punct}
use Rattle.cq_base.specs.declared.token.Token.{Token}
use Rattle.cq_base.specs.declared.measures.FileCounts.{FileCounts}
use Rattle.cq_base.specs.declared.measures.Measures.{Measures}
use Rattle.cq_measures.specs.declared.extent.Extent.{Extent}
use Rattle.cq_measures.specs.declared.extent.FileLines.{FileLines}
use Rattle.cq_measures.specs.Extents.{covered_lines, different_extents, files_touched}

-- what is counted of each file, and where its tokens are
abbrev pub counts_of : List FileLines → List FileCounts
counts_of files = map (λ f. f.counts) files

abbrev pub spans_of : List FileLines → List (List Token)
spans_of files = map (λ f. f.spans.now) files

abbrev pub span_at : List Token → ℕ → Token
span_at spans at = slice_index_or spans at (record { class = Punct; start = 0; len = 0; first_line = 0; last_line = 0 })

-- A place of a word of `n` tokens covers the lines from the first line of its first token to the last line of its last.
abbrev pub extent_of : List (List Token) → ℕ → Place → Extent
extent_of spans n p =
    let here = slice_index_or spans p.file [] in
    record { file = p.file; first = (span_at here p.at).first_line; last = (span_at here (p.at + n - 1)).last_line }

-- those of the places of a group
abbrev pub group_extents : List (List Token) → Group → List Extent
group_extents spans g = map (extent_of spans g.tokens) g.places

-- those of all places of all groups
abbrev pub extents_of : List (List Token) → List Group → List Extent
extents_of spans groups = flat_map (λ g. group_extents spans g) groups

-- duplicated lines of all lines, in hundredths of a percent, rounded down; 0 if there is no line
abbrev pub density : ℕ → ℕ → ℕ
density duplicated lines = if lines == 0 then 0 else 10000 * duplicated / lines

-- the counts of all files together
abbrev pub total : List FileCounts → FileCounts
total counts = record { lines = sum_by (λ c. c.lines) counts; ncloc = sum_by (λ c. c.ncloc) counts; complexity = sum_by (λ c. c.complexity) counts }

-- The measures of some files with these counts in all, in which the places of groups cover these extents. Each line, each
-- extent and each file counts once, however many groups touch it.
abbrev pub measures_of : ℕ → FileCounts → List Extent → Measures
measures_of files counts extents =
    record {
      lines = counts.lines;
      ncloc = counts.ncloc;
      files = files;
      complexity = counts.complexity;
      dup_lines = covered_lines extents;
      dup_blocks = different_extents extents;
      dup_files = files_touched extents;
      density = density (covered_lines extents) counts.lines;
    }

-- those of a project: of all its files, and all places
abbrev pub project_measures : List FileCounts → List (List Token) → List Group → Measures
project_measures counts spans groups = measures_of (length counts) (total counts) (extents_of spans groups)

abbrev pub no_counts : FileCounts
no_counts = record { lines = 0; ncloc = 0; complexity = 0 }

-- those of one file, with the places that groups of all files have in it
abbrev pub file_measures : List FileCounts → List (List Token) → ℕ → List Group → Measures
file_measures counts spans file groups =
    measures_of 1 (slice_index_or counts file no_counts) (filter (λ e. e.file == file) (extents_of spans groups))

-- those of files as they are lent
abbrev pub measures_of_project : List FileLines → List Group → Measures
measures_of_project files groups = project_measures (counts_of files) (spans_of files) groups

-- the file with this number, if all files have these counts and spans
abbrev pub IsFileAt : List FileCounts → List (List Token) → ℕ → FileLines → Type 0
IsFileAt counts spans file f = (slice_index_or counts file no_counts ≡ f.counts) × (slice_index_or spans file [] ≡ f.spans.now)

-- they are those of the file, whatever the others have
abbrev pub AreOfFile : FileLines → ℕ → List Group → Measures → Type 0
AreOfFile f file groups m = (counts : List FileCounts) (spans : List (List Token)) → IsFileAt counts spans file f → m ≡ file_measures counts spans file groups

-- what is counted of the files with these numbers
abbrev pub counts_at : List FileCounts → List ℕ → List FileCounts
counts_at counts chosen = map (λ file. slice_index_or counts file no_counts) chosen

-- the extent is in one of these files
abbrev pub is_in_chosen : List ℕ → Extent → Bool
is_in_chosen chosen e = list_any (nat_eq e.file) chosen

-- those of the groups' places in these files
abbrev pub chosen_extents : List ℕ → List (List Token) → List Group → List Extent
chosen_extents chosen spans groups = filter (is_in_chosen chosen) (extents_of spans groups)

-- those of only some of the files, with the places that groups of all files have in them
abbrev pub chosen_measures : List FileCounts → List (List Token) → List ℕ → List Group → Measures
chosen_measures counts spans chosen groups = measures_of (length chosen) (total (counts_at counts chosen)) (chosen_extents chosen spans groups)

abbrev pub measures_of_chosen : List FileLines → List ℕ → List Group → Measures
measures_of_chosen files chosen groups = chosen_measures (counts_of files) (spans_of files) chosen groups

-- the extent of a place, or of a group's places, comes after others, if the file is chosen
abbrev pub AddsPlace : List FileLines → List ℕ → ℕ → Place → List Extent → List Extent → Type 0
AddsPlace files chosen n p old new = new ≡ old ++ filter (is_in_chosen chosen) (extent_of (spans_of files) n p ∷ [])

abbrev pub AddsPlaces : List FileLines → List ℕ → Group → List Extent → List Extent → Type 0
AddsPlaces files chosen g old new = new ≡ old ++ filter (is_in_chosen chosen) (group_extents (spans_of files) g)

-- ---- what can be measured: each place lies with all its tokens in its file, and the counts are of texts

abbrev pub IsInside : List (List Token) → ℕ → Place → Type 0
IsInside spans n p = (p.file < length spans) × (p.at + n ≤ length (slice_index_or spans p.file []))

abbrev pub IsGroupInside : List (List Token) → Group → Type 0
IsGroupInside spans g = (1 ≤ g.tokens) × ((p : Place) → Contains g.places p → IsInside spans g.tokens p)

abbrev pub AreGroupsInside : List (List Token) → List Group → Type 0
AreGroupsInside spans groups = (g : Group) → Contains groups g → IsGroupInside spans g

-- none is above 2^32
abbrev pub AreSmall : FileCounts → Type 0
AreSmall c = (c.lines ≤ 2 ^ 32) × (c.ncloc ≤ 2 ^ 32) × (c.complexity ≤ 2 ^ 32)

pub record IsMeasurable (counts : List FileCounts) (spans : List (List Token)) (groups : List Group) : Type 0 where
  pub few : length counts ≤ 262144
  pub small : All AreSmall counts
  pub inside : AreGroupsInside spans groups

-- ---- of a project whose groups lie inside its files

-- if all files are chosen, the measures are those of the project
abbrev pub AllChosenAreTheProject : Type 0
AllChosenAreTheProject = (counts : List FileCounts) (spans : List (List Token)) (groups : List Group) → length spans ≡ length counts → AreGroupsInside spans groups
    → chosen_measures counts spans (range_with_len 0 (length counts)) groups ≡ project_measures counts spans groups

-- if one file is chosen, they are those of that file
abbrev pub OneChosenIsTheFile : Type 0
OneChosenIsTheFile = (counts : List FileCounts) (spans : List (List Token)) (file : ℕ) (groups : List Group) → chosen_measures counts spans (file ∷ []) groups ≡ file_measures counts spans file groups
