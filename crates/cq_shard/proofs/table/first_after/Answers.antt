use Rattle.std.proofs.Common.{nat_le, rules}
use Rattle.std.proofs.lemmas.Bool.{leb-true}
use Rattle.std.proofs.lemmas.List.Sorted.{IsPartitionPoint-from_clause}
use Rattle.cq_shard.specs.declared.table.Block.{Block}
use Rattle.cq_shard.proofs.Blocks.{parted_blocks, starts_after}
use Rattle.cq_shard.proofs.table.first_after.Goals as goal

pub returns : goal.returns
returns c =
    let blocks = c.args.blocks.now in
    let change = c.args.change in
    let point = IsPartitionPoint-from_clause (λ (b : Block). nat_le b.start change) blocks c.partition_point.result c.partition_point.ensures.partitioned (parted_blocks blocks change c.requires) (λ a r q called. search rules) in
    record {
      within = c.partition_point.ensures.bound;
      before = λ k d from to. leb-true _ change (point.0 k d from to);
      after = λ k d from to. starts_after _ change (point.1 k d from to);
    }
