use Rattle.std.proofs.Common.{ℕ, ◌<◌, ◌≤◌, get_or}
use Rattle.cq_shard.specs.Shard.{Contents}
use Rattle.cq_hub.proofs.sweeping.least_floor.Given as goal

abbrev pub invariant-loop-shard : goal.invariant-loop-shard
invariant-loop-shard l = (l.least ≤ l.floor) × ((k : ℕ) (d : Contents) → k < l.shard-index → l.least ≤ (get_or l.shards k d).floor)
