use Rattle.std.proofs.Common.{◌≡◌, ◌≤◌, ◌-◌, ◌++◌, length, take}
use Rattle.cq_shard.specs.Blocks.{IsTable, puts_in}
use Rattle.cq_shard.proofs.table.append.Given as goal

abbrev pub invariant-filling : goal.invariant-filling
invariant-filling l = record {
  within : l.from ≤ length l.changes;
  table : IsTable l.blocks.items;
  appended : puts_in l.blocks.items ≡ puts_in l.fn.blocks.items ++ take l.from l.changes;
}

abbrev pub decreases-filling : goal.decreases-filling
decreases-filling l = length l.changes - l.from
