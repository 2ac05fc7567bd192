use Rattle.std.proofs.Common.{nat_le, rules, arith}
use Rattle.std.proofs.lemmas.List.Sorted.{IsPartitionPoint-from_clause}
use Rattle.cq_shard.proofs.Leaving.{parted_numbers}
use Rattle.cq_shard.proofs.puts.up_to.Goals as goal

pub returns : goal.returns
returns c =
    let numbers = c.args.numbers.now in
    let floor = c.args.floor in
    let point = IsPartitionPoint-from_clause (λ n. nat_le n floor) numbers c.partition_point.result c.partition_point.ensures.partitioned (parted_numbers numbers floor c.requires) (λ a r q called. search rules) in
    record {
      within = c.partition_point.ensures.bound;
      low = λ k d from to. let h = point.0 k d from to in grind arith;
      high = λ k d from to. let h = point.1 k d from to in grind arith;
    }
