use Rattle.std.proofs.Common.{◌≡◌, ◌++◌, length, take, drop, map}
use Rattle.cq_shard.specs.Blocks.{with_puts}
use Rattle.cq_shard.specs.Tables.{no_later}
use Rattle.cq_shard.proofs.table.cut_each.Given as goal

abbrev pub invariant-loop-i : goal.invariant-loop-i
invariant-loop-i l = record {
  number : length l.blocks.items ≡ length l.fn.blocks.items;
  cut : l.blocks.items ≡ map (with_puts (no_later l.last)) (take l.i l.fn.blocks.items) ++ drop l.i l.fn.blocks.items;
}
