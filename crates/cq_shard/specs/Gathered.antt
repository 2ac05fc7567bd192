-- The entries of one change for one shard.
use Rattle.std.specs.Prelude.{◌≡◌, ℕ, List, ◌++◌, length, option_copied, Option}
use Rattle.std.specs.Borrow.{Bor}
use Rattle.cq_base.specs.declared.entry.Entry.{Entry}
use Rattle.cq_shard.specs.Runs.{AreAdded}
use Rattle.cq_shard.specs.Shard.{entries_of, brought}
use Rattle.cq_shard.specs.Stores.{Stored}
use Rattle.cq_shard.specs.declared.applying.Part.{Part}

-- after those before come the entries of the change, whose windows have these keys, that are the shard's, by place
abbrev pub AreGathered : Part → List ℕ → List Entry → List Entry → Type 0
AreGathered part keys old new = new ≡ old ++ entries_of part.change part.shard part.shards 0 keys

-- the entries that the part's change brings to its shard, if it has a work
abbrev pub brought_for : {W : Type 0} → (W → List ℕ) → Part → Option (Bor W) → List Entry
brought_for keys_in part work = brought keys_in part.change part.shard part.shards (option_copied work)

-- how many they are
abbrev pub cost_for : {W : Type 0} → (W → List ℕ) → Part → Option (Bor W) → ℕ
cost_for keys_in part work = length (brought_for keys_in part work)

-- they are beside those that were stored
abbrev pub AddsBrought : {W : Type 0} → (W → List ℕ) → Part → Option (Bor W) → Stored → Stored → Type 0
AddsBrought keys_in part work old new = AreAdded old.entries (brought_for keys_in part work) new.entries
