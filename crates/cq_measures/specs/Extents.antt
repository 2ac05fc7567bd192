-- The lines that tokens and places cover.
use Rattle.std.specs.Prelude.{◌&&◌, ℕ, ◌+◌, ◌-◌, nat_lt, ◌==◌, Bool, List, map, filter}
use Rattle.std.specs.List.{flat_map, range_with_len}
use Rattle.std.specs.Set.{distinct_count}
use Rattle.cq_base.specs.declared.token.Token.{Token}
use Rattle.cq_measures.specs.declared.extent.Extent.{Extent}

-- a line of a file
pub record Line : Type 0 where
  pub file : ℕ
  pub number : ℕ

abbrev pub same_line : Line → Line → Bool
same_line a b = a.file == b.file && a.number == b.number

abbrev pub same_extent : Extent → Extent → Bool
same_extent a b = a.file == b.file && (a.first == b.first && a.last == b.last)

-- the lines of an extent, from its first to its last
abbrev pub lines_of : Extent → List Line
lines_of e = map (λ n. record { file = e.file; number = n }) (range_with_len e.first (e.last + 1 - e.first))

-- how many different lines the extents cover
abbrev pub covered_lines : List Extent → ℕ
covered_lines extents = distinct_count same_line (flat_map lines_of extents)

-- how many different extents there are
abbrev pub different_extents : List Extent → ℕ
different_extents extents = distinct_count same_extent extents

-- in how many files they are
abbrev pub files_touched : List Extent → ℕ
files_touched extents = distinct_count (λ a b. a == b) (map (λ e. e.file) extents)

-- Lines of code: those from the first to the last line of a token that has bytes. A semicolon that is inserted has none.
abbrev pub has_bytes : Token → Bool
has_bytes t = nat_lt 0 t.len

abbrev pub extent_of_token : Token → Extent
extent_of_token t = record { file = 0; first = t.first_line; last = t.last_line }

abbrev pub code_lines : List Token → ℕ
code_lines tokens = covered_lines (map extent_of_token (filter has_bytes tokens))
