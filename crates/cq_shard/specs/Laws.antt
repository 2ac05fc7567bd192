-- What a reader may rely on of a shard, over a relation which says of a text that it has at a place a window with a key.
use Rattle.std.specs.Prelude.{◌≡◌, ◌⊎◌, ◌↔◌, ℕ, ◌+◌, ◌%◌, ◌≤◌, List, [], ◌++◌, length, Contains, Some}
use Rattle.cq_base.specs.declared.lang.Lang.{Lang}
use Rattle.cq_base.specs.declared.settings.Settings.{Settings}
use Rattle.cq_base.specs.declared.entry.Entry.{Entry}
use Rattle.cq_base.specs.declared.change.Change.{Change}
use Rattle.cq_base.specs.declared.change.Change.TheVariants.{Put}
use Rattle.cq_clones.specs.Lists.{AreAllInOrder}
use Rattle.cq_clones.specs.Windows.{EntryBefore}
use Rattle.cq_history.specs.declared.event.Event.{Event}
use Rattle.cq_history.specs.State.{accepted}
use Rattle.cq_history.specs.Changes.{change_at, IsNumber}
use Rattle.cq_history.specs.Shards.{Row, IsLastOfFile, ShardHolds}
use Rattle.cq_history.specs.Gone.{AreKeptPuts}
use Rattle.cq_shard.specs.declared.indexed.Indexed.{Ghosts}
use Rattle.cq_shard.specs.Shard.{Contents, StandsFor, Holds, HasWindow, AreKnown, swept}

-- whatever the settings, the law is so of the windows of such works
abbrev pub WithAllSettings : {W : Type 0} → Ghosts W → ((Lang → List ℕ → ℕ → ℕ → Type 0) → Type 0) → Type 0
WithAllSettings of Law = (settings : Settings) → Law (HasWindow of.keys_in of.IsWorkOf settings)

module _ (IsWindow : Lang → List ℕ → ℕ → ℕ → Type 0) where
  -- what is accepted later changes nothing of what a shard holds
  abbrev pub ShardsStay : Type 0
  ShardsStay = (shards : ℕ) (h later : List Event) (shard applied floor : ℕ) (row : Row) → applied ≤ length (accepted h) → floor ≤ length (accepted h) →
      ShardHolds IsWindow shards (accepted (h ++ later)) shard applied floor row ↔ ShardHolds IsWindow shards (accepted h) shard applied floor row

  -- Applying the next change keeps what a shard holds, and adds only rows of that change: those of the windows of its text
  -- that are the shard's.
  pub record Applies (shards : ℕ) (changes : List Change) (shard applied floor : ℕ) : Type 0 where
    pub keeps : (row : Row) → ShardHolds IsWindow shards changes shard applied floor row → ShardHolds IsWindow shards changes shard (applied + 1) floor row
    pub alone : (row : Row) → ShardHolds IsWindow shards changes shard (applied + 1) floor row → ShardHolds IsWindow shards changes shard applied floor row ⊎ (row.number ≡ applied + 1)
    pub adds : (row : Row) (project path : List ℕ) (lang : Lang) (text : List ℕ) → row.number ≡ applied + 1 → IsNumber changes row.number → change_at changes row.number ≡ Some (Put project path lang text) → IsWindow lang text row.place row.key → row.key % shards ≡ shard → ShardHolds IsWindow shards changes shard (applied + 1) floor row

  abbrev pub ApplyingAddsItsRows : Type 0
  ApplyingAddsItsRows = (shards : ℕ) (changes : List Change) (shard applied floor : ℕ) → floor ≤ applied → Applies shards changes shard applied floor

  -- Raising the floor adds nothing, and leaves each row whose file no change up to the new floor puts or drops again.
  pub record Sweeps (shards : ℕ) (changes : List Change) (shard applied floor later : ℕ) : Type 0 where
    pub alone : (row : Row) → ShardHolds IsWindow shards changes shard applied later row → ShardHolds IsWindow shards changes shard applied floor row
    pub leaves : (row : Row) (held : ShardHolds IsWindow shards changes shard applied floor row) → IsLastOfFile changes held.project held.path row.number later → ShardHolds IsWindow shards changes shard applied later row

  abbrev pub SweepingTakesOutAlone : Type 0
  SweepingTakesOutAlone = (shards : ℕ) (changes : List Change) (shard applied floor later : ℕ) → floor ≤ later → Sweeps shards changes shard applied floor later

  -- a shard that has applied nothing stands for any changes
  abbrev pub StandsAtFirst : Type 0
  StandsAtFirst = (changes : List Change) (c : Contents) → c.applied ≡ 0 → c.puts ≡ [] → c.entries ≡ [] → StandsFor IsWindow changes c

  -- later changes alter nothing in what it stands for
  abbrev pub StandsOn : Type 0
  StandsOn = (changes later : List Change) (c : Contents) → c.floor ≤ c.applied → StandsFor IsWindow changes c → StandsFor IsWindow (changes ++ later) c

  -- its entries with a key and of some changes are those that the definition gives it
  abbrev pub AnswersWhatItHolds : Type 0
  AnswersWhatItHolds = (changes : List Change) (c : Contents) (key : ℕ) (live : List ℕ) (bucket : List Entry) → StandsFor IsWindow changes c →
      AreAllInOrder EntryBefore (λ e. (e.key ≡ key) × Contains live e.change × Contains c.entries e) bucket →
      AreAllInOrder EntryBefore (λ e. (e.key ≡ key) × Contains live e.change × Holds IsWindow changes c e) bucket

  -- swept up to a new floor, except for exactly the puts that this keeps, a shard stands for the changes that it stood
  -- for
  abbrev pub StandsSwept : Type 0
  StandsSwept = (changes : List Change) (c : Contents) (floor : ℕ) (keep : List ℕ) → c.floor ≤ floor → AreKeptPuts changes floor keep → StandsFor IsWindow changes c → StandsFor IsWindow changes (swept floor keep c)

  -- of the changes that it stands for, it knows each put that a floor keeps, from its own floor up to what it has applied
  abbrev pub KnowsWhatIsKept : Type 0
  KnowsWhatIsKept = (changes : List Change) (c : Contents) (floor : ℕ) (keep : List ℕ) → c.floor ≤ floor → floor ≤ c.applied → AreKeptPuts changes floor keep → StandsFor IsWindow changes c → AreKnown keep c
