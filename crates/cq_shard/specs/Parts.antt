-- The entries of some changes, parted among the shards.
use Rattle.std.specs.Prelude.{◌≡◌, ℕ, ◌<◌, List, ◌++◌, length, map, Option, Vec, slice_index_or}
use Rattle.std.specs.declared.sync.Arc.{Arc}
use Rattle.std.specs.declared.alloc.Global.{Global}
use Rattle.cq_base.specs.declared.entry.Entry.{Entry}
use Rattle.cq_shard.specs.Shard.{in_owned, entries_of, all_brought}

-- by the shards' numbers, the entries that the changes after this many bring to each, a change for each work
pub record AreParts {W : Type 0} (keys_in : W → List ℕ) (applied shards : ℕ) (works : List (Option (Arc W Global))) (parts : List (Vec Entry Global)) : Type 0 where
  pub number_is : length parts ≡ shards
  pub each : (n : ℕ) (d : Vec Entry Global) → n < shards → (slice_index_or parts n d).items ≡ all_brought (in_owned keys_in) applied n shards works

-- each part, and the rest of its shard after it, are all that its shard gets
pub record AreBegun (shards : ℕ) (rest all : ℕ → List Entry) (parts : List (List Entry)) : Type 0 where
  pub number_is : length parts ≡ shards
  pub each : (n : ℕ) (d : List Entry) → n < shards → slice_index_or parts n d ++ rest n ≡ all n

-- whatever is to come after, with the entries that a change brings they are one change further
abbrev pub HaveMore : ℕ → ℕ → List ℕ → List (Vec Entry Global) → List (Vec Entry Global) → Type 0
HaveMore change shards keys old new =
    (rest all : ℕ → List Entry) → AreBegun shards (λ n. entries_of change n shards 0 keys ++ rest n) all (map (λ part. part.items) old) → AreBegun shards rest all (map (λ part. part.items) new)
