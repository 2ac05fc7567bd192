use Rattle.std.proofs.Common.{◌≤◌, ◌++◌, ◌∷◌, [], length, take}
use Rattle.cq_shard.specs.Runs.{AreRunsWith}
use Rattle.cq_shard.proofs.runs.gather.Given as goal

abbrev pub invariant-merging : goal.invariant-merging
invariant-merging l = record {
  kept : l.kept ≤ length l.runs;
  runs : AreRunsWith l.runs l.fn.rows.items (take l.kept l.runs ++ l.rows.items ∷ []);
}

abbrev pub decreases-merging : goal.decreases-merging
decreases-merging l = l.kept
