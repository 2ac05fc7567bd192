use Rattle.std.proofs.Common.{◌≡◌, List, IfOk, subst, sym}
use Rattle.std.specs.Prelude.{All}
use Rattle.cq_groups.specs.declared.spots.Row.{Row}
use Rattle.cq_groups.specs.Rows.{all_of, IsRow}
use Rattle.cq_groups.proofs.RowLaws.{singles_are_rows}
use Rattle.cq_groups.proofs.rows.rows_of_part.Goals as goal

pub rows_at-requires : goal.rows_at-requires
rows_at-requires c = subst (All (IsRow c.args.depth)) (sym c.deref-2.ensures.value) c.requires

pub returns-then-are_single-clause-rows : goal.returns-then-are_single-clause-rows
returns-then-are_single-clause-rows c =
    singles_are_rows c.args.depth c.args.rows.items (subst (All (λ (r : Row). r.others ≡ 0)) c.deref-then-not-are_joined_at.ensures.value (c.are_single.ensures.0 c.if-are_single.true))

pub returns-clause-spots : goal.returns-clause-spots
returns-clause-spots c = subst (λ (rs : List Row). IfOk c.rows_at.result (λ made. all_of made.items ≡ all_of rs)) c.deref-2.ensures.value c.rows_at.ensures.spots
