-- Which of the accepted changes a floor forgets, since no version from the floor on needs them, and which are kept.
use Rattle.std.specs.Prelude.{◌≡◌, ◌↔◌, ℕ, ◌-◌, ◌<◌, ◌≤◌, nat_le, Bool, true, not, ◌&&◌, List, length, take, drop, filter, sum_by, slice_index_or, Contains, Some}
use Rattle.std.specs.List.{list_any, range_with_len}
use Rattle.std.specs.List.Sorted.{IsStrictlyIncreasing}
use Rattle.cq_base.specs.declared.change.Change.{Change}
use Rattle.cq_base.specs.declared.change.Change.TheVariants.{Put, Drop, Gate}
use Rattle.cq_history.specs.Changes.{is_put, is_of_file, is_gate_of, text_len, change_at, no_change, IsNumber}

-- a later change numbered at most the floor passes the test
pub record IsFollowed (test : Change → Bool) (changes : List Change) (floor number : ℕ) : Type 0 where
  pub later : ℕ
  pub change : Change
  pub behind : number < later
  pub within : later ≤ floor
  pub next : change_at changes later ≡ Some change
  pub passes : test change ≡ true

-- a drop; a put whose file a change up to the floor puts or drops again; a gate whose project a change up to the floor gives
-- other conditions
abbrev pub IsOver : List Change → ℕ → ℕ → Change → Type 0
IsOver changes floor number (Put project path lang text) = IsFollowed (is_of_file project path) changes floor number
IsOver changes floor number (Drop project path) = Unit {0}
IsOver changes floor number (Gate project conditions) = IsFollowed (is_gate_of project) changes floor number

-- the change of this number is one of those that the floor forgets
pub record IsGone (changes : List Change) (floor number : ℕ) : Type 0 where
  pub change : Change
  pub accepted : IsNumber changes number
  pub within : number ≤ floor
  pub is : change_at changes number ≡ Some change
  pub over : IsOver changes floor number change

abbrev pub IsKept : List Change → ℕ → ℕ → Type 0
IsKept changes floor number = IsNumber changes number × (IsGone changes floor number → ⊥)

-- the numbers of exactly the changes that are kept, ascending
pub record AreKept (changes : List Change) (floor : ℕ) (numbers : List ℕ) : Type 0 where
  pub rising : IsStrictlyIncreasing numbers
  pub each : (number : ℕ) → Contains numbers number ↔ IsKept changes floor number

-- the change of this number is a put
abbrev pub IsPutAt : List Change → ℕ → Type 0
IsPutAt changes number = is_put (slice_index_or changes (number - 1) no_change) ≡ true

-- the numbers of exactly the puts up to the floor that are kept, ascending
pub record AreKeptPuts (changes : List Change) (floor : ℕ) (keep : List ℕ) : Type 0 where
  pub rising : IsStrictlyIncreasing keep
  pub each : (number : ℕ) → Contains keep number ↔ (IsKept changes floor number × (number ≤ floor) × IsPutAt changes number)

-- ---- the same as computed

-- with these later changes nothing needs the change
abbrev pub is_over : Change → List Change → Bool
is_over (Put project path lang text) later = list_any (is_of_file project path) later
is_over (Drop project path) later = true
is_over (Gate project conditions) later = list_any (is_gate_of project) later

abbrev pub is_gone : List Change → ℕ → ℕ → Bool
is_gone changes floor number = nat_le number floor && is_over (slice_index_or changes (number - 1) no_change) (drop number (take floor changes))

-- the numbers of the changes that are kept, ascending
abbrev pub kept_numbers : List Change → ℕ → List ℕ
kept_numbers changes floor = filter (λ (number : ℕ). not (is_gone changes floor number)) (range_with_len 1 (length changes))

-- how many changes are kept
abbrev pub kept_count : List Change → ℕ → ℕ
kept_count changes floor = length (kept_numbers changes floor)

-- how many bytes of text a change brought
abbrev pub bytes_at : List Change → ℕ → ℕ
bytes_at changes number = text_len (slice_index_or changes (number - 1) no_change)

-- how many bytes the texts of the changes that are kept have
abbrev pub kept_bytes : List Change → ℕ → ℕ
kept_bytes changes floor = sum_by (bytes_at changes) (kept_numbers changes floor)
