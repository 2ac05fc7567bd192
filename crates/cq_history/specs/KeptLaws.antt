-- What a reader may rely on of the changes that are kept.
use Rattle.std.specs.Prelude.{◌≡◌, ◌↔◌, ℕ, ◌+◌, ◌≤◌, true, List, [], ◌∷◌, ◌++◌, length, sum_by}
use Rattle.cq_base.specs.declared.change.Change.{Change}
use Rattle.cq_history.specs.Changes.{text_len, IsNumber}
use Rattle.cq_history.specs.Files.{Source, files_at}
use Rattle.cq_history.specs.Standing.{Has}
use Rattle.cq_history.specs.Gone.{IsGone, IsKept, AreKept, AreKeptPuts, is_gone, kept_numbers, kept_count, kept_bytes}

-- what is computed is what is said
abbrev pub GoneIsAsSaid : Type 0
GoneIsAsSaid = (changes : List Change) (floor number : ℕ) → IsNumber changes number → (is_gone changes floor number ≡ true) ↔ IsGone changes floor number

-- the kept numbers are exactly those of the changes that are kept, ascending
abbrev pub KeptNumbersAreThose : Type 0
KeptNumbersAreThose = (changes : List Change) (floor : ℕ) → AreKept changes floor (kept_numbers changes floor)

-- a higher floor keeps no more
abbrev pub KeptFallsWithTheFloor : Type 0
KeptFallsWithTheFloor = (changes : List Change) (floor higher : ℕ) → floor ≤ higher → (kept_count changes higher ≤ kept_count changes floor) × (kept_bytes changes higher ≤ kept_bytes changes floor)

-- one change more is kept, beside those that were
abbrev pub OneMoreIsKept : Type 0
OneMoreIsKept = (changes : List Change) (floor : ℕ) (change : Change) → floor ≤ length changes →
    (kept_numbers (changes ++ change ∷ []) floor ≡ kept_numbers changes floor ++ (length changes + 1) ∷ []) × (kept_count (changes ++ change ∷ []) floor ≡ kept_count changes floor + 1) × (kept_bytes (changes ++ change ∷ []) floor ≡ kept_bytes changes floor + text_len change)

-- all changes above the floor are kept
abbrev pub AllAboveAreKept : Type 0
AllAboveAreKept = (changes : List Change) (floor : ℕ) → floor ≤ length changes → length changes ≤ floor + kept_count changes floor

-- a change that is gone stays so, whatever is accepted later and however the floor rises
abbrev pub GoneStaysGone : Type 0
GoneStaysGone = (changes later : List Change) (floor higher number : ℕ) → floor ≤ higher → IsGone changes floor number → IsGone (changes ++ later) higher number

-- the files of each version from the floor on were put by changes that are kept
abbrev pub FilesAreKept : Type 0
FilesAreKept = (changes : List Change) (floor version : ℕ) (project : List ℕ) (f : Source) → floor ≤ version → Has (files_at changes version project) f → IsKept changes floor f.number

-- so there are no more of them than changes that are kept
abbrev pub FilesAreFew : Type 0
FilesAreFew = (changes : List Change) (floor version : ℕ) (project : List ℕ) → floor ≤ version → length (files_at changes version project) ≤ kept_count changes floor

-- at the lowest floor all are kept
abbrev pub AllAreKeptAtFirst : Type 0
AllAreKeptAtFirst = (changes : List Change) → (kept_count changes 0 ≡ length changes) × (kept_bytes changes 0 ≡ sum_by text_len changes)

-- the puts that a floor keeps stay those when more is accepted
abbrev pub KeptPutsStay : Type 0
KeptPutsStay = (changes later : List Change) (floor : ℕ) (keep : List ℕ) → floor ≤ length changes → AreKeptPuts changes floor keep → AreKeptPuts (changes ++ later) floor keep
