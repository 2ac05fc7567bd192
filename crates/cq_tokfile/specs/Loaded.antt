-- All entries of some files, by key.
use Rattle.std.specs.Prelude.{◌≡◌, ◌≢◌, ◌⊎◌, ◌&&◌, ◌||◌, ◌==◌, ℕ, ◌<◌, ◌≤◌, nat_lt, Bool, List, length, Contains, map, slice_get, Some}
use Rattle.std.specs.Arc.{arc_value}
use Rattle.std.specs.List.{AllWithin}
use Rattle.cq_base.specs.declared.entry.Entry.{Entry}
use Rattle.cq_clones.specs.Lists.{AreAllInOrder}
use Rattle.cq_clones.specs.Windows.{EntryBefore, IsEntryOf}
use Rattle.cq_history.specs.Files.{File}
use Rattle.cq_order.specs.Order.{is_entry_before}
use Rattle.cq_projects.specs.Spotted.{numbers_of}
use Rattle.cq_work.specs.declared.work.Work.{Work}

-- the keys of each file's windows
abbrev pub keys_in : {L : Type 0} → List (File (Work L)) → List (List ℕ)
keys_in {L} files = map (λ (f : File (Work L)). arc_value f.body.keys) files

-- by key, and then by change and place
abbrev pub KeyedBefore : Entry → Entry → Type 0
KeyedBefore a b = (a.key < b.key) ⊎ ((a.key ≡ b.key) × EntryBefore a b)

abbrev pub is_keyed_before : Entry → Entry → Bool
is_keyed_before a b = nat_lt a.key b.key || (a.key == b.key && is_entry_before a b)

-- exactly the entries of the files, in order
abbrev pub AreIndexed : List ℕ → List (List ℕ) → List Entry → Type 0
AreIndexed changes keys entries = AreAllInOrder KeyedBefore (IsEntryOf changes keys) entries

-- the old entries and those of one file, each once
abbrev pub AddsAllEntries : ℕ → List ℕ → List Entry → List Entry → Type 0
AddsAllEntries change keys old new = AreAllInOrder (λ a b. a ≢ b) (λ e. Contains old e ⊎ ((e.change ≡ change) × (slice_get keys e.at ≡ Some e.key))) new

-- keys before the place are lesser, and none from there on is
pub record IsFirst (key : ℕ) (entries : List Entry) (at : ℕ) : Type 0 where
  pub bound : at ≤ length entries
  pub lesser : AllWithin (λ (e : Entry). e.key < key) entries 0 at
  pub others : AllWithin (λ (e : Entry). key ≤ e.key) entries at (length entries)

-- those of entries that have a key, in their order
abbrev pub AreThoseOf : ℕ → List Entry → List Entry → Type 0
AreThoseOf key entries found = AreAllInOrder EntryBefore (λ e. Contains entries e × (e.key ≡ key)) found

-- what buckets are to their callers: the changes of the files that they are for, the keys of each, and how often they were
-- asked
pub record KeyedFiles : Type 0 where
  pub changes : List ℕ
  pub keys : List (List ℕ)
  pub asked : ℕ

-- they are those of these files
pub record IsLoadedOf {L : Type 0} (files : List (File (Work L))) (b : KeyedFiles) : Type 0 where
  pub changes : b.changes ≡ numbers_of files
  pub keys : b.keys ≡ keys_in files
