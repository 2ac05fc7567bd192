-- The files and the conditions of a project after a list of changes.
use Rattle.std.specs.Prelude.{ℕ, ◌+◌, Bool, not, ◌&&◌, ◌||◌, if◌then◌else◌, List, [], ◌∷◌, take, filter, insert, Option, Some, None}
use Rattle.std.specs.List.{list_any, position_or_len}
use Rattle.std.specs.Str.{bytes_eq}
use Rattle.std.specs.Ordering.{nat_cmp, is_lt}
use Rattle.std.specs.Cmp.Lexicographic.{slice_cmp}
use Rattle.cq_base.specs.declared.lang.Lang.{Lang}
use Rattle.cq_base.specs.declared.change.Condition.{Condition}
use Rattle.cq_base.specs.declared.change.Change.{Change}
use Rattle.cq_base.specs.declared.change.Change.TheVariants.{Put, Drop, Gate}

-- a file: its path, the number of the change that put it, its language, and what is kept of it
pub record File (X : Type 0) : Type 0 where
  pub path : List ℕ
  pub number : ℕ
  pub lang : Lang
  pub body : X

-- the first path is before the second, byte by byte
abbrev pub is_before : List ℕ → List ℕ → Bool
is_before p q = is_lt (slice_cmp nat_cmp p q)

module _ {X : Type 0} where
  -- the files at other paths
  abbrev pub without_file : List ℕ → List (File X) → List (File X)
  without_file p files = filter (λ (f : File X). not (bytes_eq p f.path)) files

  -- where a path belongs among files in path order
  abbrev pub place_of : List ℕ → List (File X) → ℕ
  place_of p files = position_or_len (λ (f : File X). is_before p f.path) files

  -- with the file at its place in path order, and no other at its path
  abbrev pub with_file : File X → List (File X) → List (File X)
  with_file f files = insert (without_file f.path files) (place_of f.path (without_file f.path files)) f

  abbrev pub has_file : List ℕ → List (File X) → Bool
  has_file p files = list_any (λ (f : File X). bytes_eq p f.path) files

  -- the number of the change that put the file at a path, if there is one
  abbrev pub number_at : List ℕ → List (File X) → Option ℕ
  number_at p [] = None
  number_at p (f ∷ files) = if bytes_eq p f.path then Some f.number else number_at p files

-- a file with its text
abbrev pub Source : Type 0
Source = File (List ℕ)

-- what the change of this number makes of a project's files
abbrev pub files_after : List ℕ → ℕ → List Source → Change → List Source
files_after q r files (Put project path lang text) = if bytes_eq q project then with_file (record { path = path; number = r; lang = lang; body = text }) files else files
files_after q r files (Drop project path) = if bytes_eq q project then without_file path files else files
files_after q r files (Gate project conditions) = files

abbrev pub files_from : List ℕ → ℕ → List Source → List Change → List Source
files_from q r files [] = files
files_from q r files (c ∷ cs) = files_from q (r + 1) (files_after q r files c) cs

-- the files of the project after the changes, in path order
abbrev pub files_of : List ℕ → List Change → List Source
files_of q changes = files_from q 1 [] changes

-- the files of the project at a version
abbrev pub files_at : List Change → ℕ → List ℕ → List Source
files_at changes version q = files_of q (take version changes)

-- whether a file exists after a change, whether it existed before or not
abbrev pub is_path_put : List ℕ → List ℕ → Bool → Change → Bool
is_path_put q p was (Put project path lang text) = was || bytes_eq q project && bytes_eq p path
is_path_put q p was (Drop project path) = was && not (bytes_eq q project && bytes_eq p path)
is_path_put q p was (Gate project conditions) = was

abbrev pub conditions_after : List ℕ → List Condition → Change → List Condition
conditions_after q old (Put project path lang text) = old
conditions_after q old (Drop project path) = old
conditions_after q old (Gate project conditions) = if bytes_eq q project then conditions else old

abbrev pub conditions_from : List ℕ → List Condition → List Change → List Condition
conditions_from q old [] = old
conditions_from q old (c ∷ cs) = conditions_from q (conditions_after q old c) cs

-- the conditions of the project after the changes: those of its last gate, or none
abbrev pub conditions_of : List ℕ → List Change → List Condition
conditions_of q changes = conditions_from q [] changes

abbrev pub conditions_at : List Change → ℕ → List ℕ → List Condition
conditions_at changes version q = conditions_of q (take version changes)
