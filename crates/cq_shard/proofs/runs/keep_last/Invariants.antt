use Rattle.std.proofs.Common.{◌≤◌, length}
use Rattle.cq_shard.specs.Stores.{AreLeft}
use Rattle.cq_shard.proofs.runs.keep_last.Given as goal

abbrev pub invariant-runs : goal.invariant-runs
invariant-runs l = record {
  within : l.kept ≤ length l.runs.items;
  left : AreLeft l.changes l.fn.runs.items l.runs.items;
}

abbrev pub decreases-runs : goal.decreases-runs
decreases-runs l = l.kept
