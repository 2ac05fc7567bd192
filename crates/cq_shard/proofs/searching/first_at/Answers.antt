use Rattle.std.proofs.Common.{◌-◌, nat_lt, take, drop, rules}
use Rattle.std.proofs.lemmas.List.Sorted.{IsPartitionPoint-from_clause}
use Rattle.cq_shard.proofs.Finding.{parted_between, found_lesser, found_others}
use Rattle.cq_shard.proofs.searching.first_at.Goals as goal

pub returns-clause-lesser : goal.returns-clause-lesser
returns-clause-lesser c =
    let rows = c.args.rows.now in
    let key = c.args.key in
    let from = c.near-from.result.0 in
    let to = c.near-from.result.1 in
    let point = IsPartitionPoint-from_clause (λ e. nat_lt e.key key) (take (to - from) (drop from rows)) c.partition_point.result c.partition_point.ensures.partitioned (parted_between rows key from (to - from) c.requires) (λ a r q called. search rules) in
    found_lesser rows key from to c.partition_point.result c.near-from.ensures c.partition_point.ensures.bound point.0

pub returns-clause-others : goal.returns-clause-others
returns-clause-others c =
    let rows = c.args.rows.now in
    let key = c.args.key in
    let from = c.near-from.result.0 in
    let to = c.near-from.result.1 in
    let point = IsPartitionPoint-from_clause (λ e. nat_lt e.key key) (take (to - from) (drop from rows)) c.partition_point.result c.partition_point.ensures.partitioned (parted_between rows key from (to - from) c.requires) (λ a r q called. search rules) in
    found_others rows key from to c.partition_point.result c.near-from.ensures c.partition_point.ensures.bound point.1
