use Rattle.std.proofs.Common.{◌<◌, nat_lt, true, arith, rules}
use Rattle.std.proofs.lemmas.List.Sorted.{IsPartitionPoint-from_clause, IsPartitionedBy-ltb}
use Rattle.cq_base.specs.declared.token.Mark.{Mark}
use Rattle.cq_normal.proofs.Marked.{none_tells, search_tells}
use Rattle.cq_normal.proofs.keeping.is_on.Goals as goal

pub returns-then-before-eq0 : goal.returns-then-before-eq0
returns-then-before-eq0 c =
    let marks = c.args.marks.now in
    let point = IsPartitionPoint-from_clause (λ (m : Mark). nat_lt m.at c.args.byte) marks c.partition_point-before.result c.partition_point-before.ensures.partitioned (IsPartitionedBy-ltb (λ (m : Mark). m.at) marks c.args.byte c.requires) (λ a r q called. search rules) in
    none_tells c.args.byte true marks c.partition_point-before.result c.if-before-eq0.true point

pub returns : goal.returns
returns c =
    let marks = c.args.marks.now in
    let some : 0 < c.partition_point-before.result = omega (arith, c.if-before-eq0.false) in
    let point = IsPartitionPoint-from_clause (λ (m : Mark). nat_lt m.at c.args.byte) marks c.partition_point-before.result c.partition_point-before.ensures.partitioned (IsPartitionedBy-ltb (λ (m : Mark). m.at) marks c.args.byte c.requires) (λ a r q called. search rules) in
    search_tells c.args.byte true marks c.partition_point-before.result _ c.partition_point-before.ensures.bound some point
