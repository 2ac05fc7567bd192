use Rattle.std.proofs.Common.{◌≡◌, ◌≤◌, ◌++◌, length, take, drop, map}
use Rattle.cq_shard.specs.Blocks.{with_puts}
use Rattle.cq_shard.specs.Tables.{staying}
use Rattle.cq_shard.proofs.TakingOut.{IsRestOf}
use Rattle.cq_shard.proofs.table.take_out_each.Given as goal

abbrev pub invariant-taking : goal.invariant-taking
invariant-taking l = record {
  number : length l.blocks.items ≡ length l.fn.blocks.items;
  left : l.blocks.items ≡ map (with_puts (staying l.floor l.keep)) (take l.i l.fn.blocks.items) ++ drop l.i l.fn.blocks.items;
  within : l.kept ≤ length l.keep;
  rest : IsRestOf l.fn.blocks.items l.keep l.i l.kept;
  none : l.went ≡ 0 → l.blocks.items ≡ l.fn.blocks.items;
}
