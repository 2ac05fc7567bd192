use Rattle.std.proofs.Common.{◌≡◌, ◌++◌, drop}
use Rattle.cq_shard.specs.Shard.{entries_of}
use Rattle.cq_shard.proofs.applying.gather.Given as goal

-- what is left brings the rest
abbrev pub invariant-loop-at : goal.invariant-loop-at
invariant-loop-at l = l.entries.items ++ entries_of l.part.change l.part.shard l.part.shards l.at (drop l.at l.keys) ≡ l.fn.entries.items ++ entries_of l.part.change l.part.shard l.part.shards 0 l.keys
