use Rattle.std.proofs.Common.{◌≡◌, ℕ, ◌<◌, [], length, get_or}
use Rattle.cq_shard.specs.Shard.{Contents}
use Rattle.cq_core.proofs.machine.shards_of.Given as goal

abbrev pub invariant-loop-i : goal.invariant-loop-i
invariant-loop-i l = (length l.shards.items ≡ l.i) × ((k : ℕ) (d : Contents) → k < l.i → get_or l.shards.items k d ≡ record { shard = k; shards = l.number; applied = 0; floor = 0; puts = []; entries = [] })
