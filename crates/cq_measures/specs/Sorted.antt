-- Extents in order.
use Rattle.std.specs.Prelude.{◌≡◌, ◌↔◌, ℕ, ◌+◌, ◌-◌, ◌<◌, ◌==◌, nat_lt, nat_le, if◌then◌else◌, List, [], ◌∷◌, All, Contains}
use Rattle.std.specs.List.Sorted.{IsStrictlySortedBy}
use Rattle.std.specs.declared.cmp.Ordering.{Ordering}
use Rattle.std.specs.Ordering.{nat_cmp, ordering_then}
use Rattle.cq_measures.specs.declared.extent.Extent.{Extent}

-- by file, then first line, then last line
abbrev pub extent_cmp : Extent → Extent → Ordering
extent_cmp a b = ordering_then (nat_cmp a.file b.file) (ordering_then (nat_cmp a.first b.first) (nat_cmp a.last b.last))

abbrev pub AreInOrder : List Extent → Type 0
AreInOrder extents = IsStrictlySortedBy extent_cmp extents

-- the second list has the extents of the first, each once, in order
pub record IsOneOfEach (xs ys : List Extent) : Type 0 where
  pub ordered : AreInOrder ys
  pub each : (e : Extent) → Contains ys e ↔ Contains xs e

-- all are in files below one
abbrev pub AreBelow : ℕ → List Extent → Type 0
AreBelow n extents = All (λ e. e.file < n) extents

-- all are in one file
abbrev pub AreIn : ℕ → List Extent → Type 0
AreIn file extents = All (λ e. e.file ≡ file) extents

-- ---- a count along extents in order

-- the lines of the extent's file that are taken lie below this one, where those below `free` are in `file`
abbrev pub taken : ℕ → ℕ → Extent → ℕ
taken file free e = if e.file == file then free else 0

abbrev pub greater : ℕ → ℕ → ℕ
greater a b = if nat_lt a b then b else a

-- the extent's first line that is new, and the first line after it that is not taken
abbrev pub first_new : ℕ → ℕ → Extent → ℕ
first_new file free e = greater e.first (taken file free e)

abbrev pub next_free : ℕ → ℕ → Extent → ℕ
next_free file free e = greater (e.last + 1) (taken file free e)

-- how many lines of the extents are new
abbrev pub new_count : ℕ → ℕ → List Extent → ℕ
new_count file free [] = 0
new_count file free (e ∷ es) = (e.last + 1 - first_new file free e) + new_count e.file (next_free file free e) es

-- in how many files from `next` on they are
abbrev pub new_files : ℕ → List Extent → ℕ
new_files next [] = 0
new_files next (e ∷ es) = if nat_le next e.file then 1 + new_files (e.file + 1) es else new_files next es
