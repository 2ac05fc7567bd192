use Rattle.std.proofs.Common.{ltb, rules}
use Rattle.std.proofs.lemmas.List.Sorted.{IsPartitionPoint-from_clause, IsPartitionedBy-ltb}
use Rattle.cq_base.specs.declared.entry.Entry.{Entry}
use Rattle.cq_tokfile.proofs.Indexing.{keys_rise, first_parted}
use Rattle.cq_tokfile.proofs.loaded.first_at.Goals as goal

pub returns : goal.returns
returns c =
    let entries = c.args.entries.now in
    let key = c.args.key in
    let at = c.partition_point.result in
    let up = keys_rise entries c.requires in
    first_parted key entries c.requires at c.partition_point.ensures.bound
    (IsPartitionPoint-from_clause (λ (e : Entry). ltb e.key key) entries at c.partition_point.ensures.partitioned (IsPartitionedBy-ltb (λ (e : Entry). e.key) entries key up) (λ a r q called. search rules))
