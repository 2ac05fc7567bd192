-- The entries of a version, and what a shard has of them.
use Rattle.std.specs.Prelude.{◌≡◌, ℕ, ◌%◌, ◌≤◌, List, length, take, Contains}
use Rattle.cq_base.specs.declared.lang.Lang.{Lang}
use Rattle.cq_base.specs.declared.entry.Entry.{Entry}
use Rattle.cq_base.specs.declared.change.Change.{Change}
use Rattle.cq_clones.specs.Lists.{AreAllInOrder}
use Rattle.cq_clones.specs.Windows.{EntryBefore}
use Rattle.cq_history.specs.Files.{Source, files_at}
use Rattle.cq_history.specs.Standing.{Has}
use Rattle.cq_shard.specs.Shard.{Contents, StandsFor}
use Rattle.cq_board.specs.Listings.{AreLive}

module _ (IsWindow : Lang → List ℕ → ℕ → ℕ → Type 0) where
  -- the entry is that of a window with the key in a file of the version
  pub record IsEntryAt (changes : List Change) (version key : ℕ) (e : Entry) : Type 0 where
    pub project : List ℕ
    pub file : Source
    pub there : Has (files_at changes version project) file
    pub number : file.number ≡ e.change
    pub window : IsWindow file.lang file.body e.at key
    pub same_key : e.key ≡ key

  -- the entries of the version with the key if the key is the shard's, and else none, by change and place
  abbrev pub AreEntriesAt : ℕ → ℕ → List Change → ℕ → ℕ → List Entry → Type 0
  AreEntriesAt shards shard changes version key entries = AreAllInOrder EntryBefore (λ e. (key % shards ≡ shard) × IsEntryAt changes version key e) entries

  -- a shard that has applied the version and was not swept beyond it has the entries of the version: those with the key
  -- whose changes are the version's files'
  abbrev pub ShardsHaveTheEntries : Type 0
  ShardsHaveTheEntries = (changes : List Change) (c : Contents) (version key : ℕ) (live : List ℕ) (bucket : List Entry) → StandsFor IsWindow changes c → version ≤ length changes → version ≤ c.applied → c.floor ≤ version → AreLive (take version changes) live →
      AreAllInOrder EntryBefore (λ e. (e.key ≡ key) × Contains live e.change × Contains c.entries e) bucket → AreEntriesAt c.shards c.shard changes version key bucket
