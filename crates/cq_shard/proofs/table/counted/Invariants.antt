use Rattle.std.proofs.Common.{◌≡◌, ◌≤◌, length}
use Rattle.cq_shard.proofs.table.counted.Given as goal

abbrev pub invariant-loop-put : goal.invariant-loop-put
invariant-loop-put l = record {
  within : l.from ≤ length l.entries;
  long : length l.sizes.items ≡ l.put-index;
}
