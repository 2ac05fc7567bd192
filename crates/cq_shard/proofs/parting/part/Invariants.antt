use Rattle.std.proofs.Common.{◌≡◌, ℕ, List, ◌++◌, drop, length, map}
use Rattle.cq_base.specs.declared.entry.Entry.{Entry}
use Rattle.cq_shard.specs.Shard.{entries_of}
use Rattle.cq_shard.specs.Parts.{AreBegun}
use Rattle.cq_shard.proofs.parting.part.Given as goal

-- what is left brings the rest
abbrev pub invariant-loop-at : goal.invariant-loop-at
invariant-loop-at l = record {
  number : length l.parts.items ≡ l.shards;
  begun : (rest all : ℕ → List Entry) → AreBegun l.shards (λ n. entries_of l.change n l.shards 0 l.keys ++ rest n) all (map (λ part. part.items) l.fn.parts.items) → AreBegun l.shards (λ n. entries_of l.change n l.shards l.at (drop l.at l.keys) ++ rest n) all (map (λ part. part.items) l.parts.items);
}
