use Rattle.std.proofs.Common.{◌+◌, subst, sym}
use Rattle.std.specs.Prelude.{All}
use Rattle.cq_groups.specs.Rows.{IsRow}
use Rattle.cq_groups.proofs.RowLaws.{rows_each, each_deeper, rows_deeper}
use Rattle.cq_groups.proofs.rows.further_on.Goals as goal

pub invariant_of-result : goal.invariant_of-result
invariant_of-result c = record { rows_are = rows_deeper c.args.set.depth c.args.set.rows.items c.args.set.rows_are }

pub rows_at-requires : goal.rows_at-requires
rows_at-requires c =
    let depth = c.args.set.depth in
    subst (All (IsRow (depth + 1))) (sym c.deref-2.ensures.value) (each_deeper depth c.args.set.rows.items (rows_each depth c.args.set.rows.items c.args.set.rows_are))
