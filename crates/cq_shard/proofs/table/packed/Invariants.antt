use Rattle.std.proofs.Common.{take}
use Rattle.cq_shard.specs.Blocks.{IsTableOf, puts_in}
use Rattle.cq_shard.proofs.table.packed.Given as goal

abbrev pub invariant-loop-block : goal.invariant-loop-block
invariant-loop-block l = IsTableOf (puts_in (take l.block-index l.blocks)) l.packed.items
