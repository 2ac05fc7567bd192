-- The entries that a shard stores. Those of changes that a sweep took out may lie there for a while, but count no more.
use Rattle.std.specs.Prelude.{◌≡◌, ◌⊎◌, ℕ, ◌<◌, ◌≤◌, List, [], ◌++◌, length, get_or, filter, All, Contains}
use Rattle.std.specs.List.Sorted.{IsStrictlyIncreasing}
use Rattle.cq_base.specs.declared.entry.Entry.{Entry}
use Rattle.cq_shard.specs.Runs.{AreDifferent}
use Rattle.cq_shard.specs.Tables.{is_among, stays, staying}

-- the entries of these changes
abbrev pub those_of : List ℕ → List Entry → List Entry
those_of changes entries = filter (λ (e : Entry). is_among changes e.change) entries

-- the entries of changes above the floor, and of those to keep
abbrev pub left_to : ℕ → List ℕ → List Entry → List Entry
left_to floor keep entries = filter (λ (e : Entry). stays floor keep e.change) entries

-- a run as it was, or only its entries of these changes
abbrev pub IsLeft : List ℕ → List Entry → List Entry → Type 0
IsLeft changes old new = (new ≡ old) ⊎ (new ≡ those_of changes old)

-- each of the runs is so
pub record AreLeft (changes : List ℕ) (old new : List (List Entry)) : Type 0 where
  pub number : length new ≡ length old
  pub each : (i : ℕ) → i < length old → IsLeft changes (get_or old i []) (get_or new i [])

-- up to which change all were added, the puts that no sweep took out, and the entries that count, which are theirs
pub record Stored : Type 0 where
  pub applied : ℕ
  pub puts : List ℕ
  pub entries : List Entry

abbrev pub stored : ℕ → List ℕ → List Entry → Stored
stored applied changes rows = record { applied = applied; puts = changes; entries = those_of changes rows }

-- the puts up to the floor are gone, and their entries count no more, but for those to keep
abbrev pub left_by : ℕ → List ℕ → Stored → Stored
left_by floor keep s = record { applied = s.applied; puts = staying floor keep s.puts; entries = left_to floor keep s.entries }

-- puts after all so far and up to a change, ascending, and entries of these
pub record AreNext (s : Stored) (applied : ℕ) (puts : List ℕ) (entries : List Entry) : Type 0 where
  pub rising : IsStrictlyIncreasing (s.puts ++ puts)
  pub later : All (λ n. s.applied < n) puts
  pub known : All (λ n. n ≤ applied) puts
  pub each : All (λ e. Contains puts e.change) entries

-- The entries are of the changes so far. If none of them is known to be gone, all are of changes that are still there.
pub record IsStore (applied : ℕ) (changes : List ℕ) (rows : List Entry) (gone : ℕ) : Type 0 where
  pub known : All (λ n. n ≤ applied) changes
  pub brought : All (λ e. e.change ≤ applied) rows
  pub different : AreDifferent rows
  pub whole : gone ≡ 0 → (e : Entry) → Contains rows e → Contains changes e.change
