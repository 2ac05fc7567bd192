use Rattle.std.proofs.Common.{◌++◌, List, ap₂, sym, subst, arith}
use Rattle.std.specs.Prelude.{IfSome}
use Rattle.cq_groups.specs.declared.spots.Spot.{Spot}
use Rattle.cq_groups.specs.Rows.{row_spots}
use Rattle.cq_groups.specs.Sets.{IsRowOf}
use Rattle.cq_groups.proofs.RowLaws.{alone_spots}
use Rattle.cq_groups.proofs.rows.joined.Goals as goal

pub returns-then-row-eq0 : goal.returns-then-row-eq0
returns-then-row-eq0 c =
    let row = c.args.row.now in
    let next = c.args.next.now in
    subst (λ (ss : List Spot). IfSome c.begun.result (IsRowOf c.args.depth ss))
    (sym (ap₂ (λ (a b : List Spot). a ++ b) (alone_spots row (omega (arith, c.if-row-eq0.true))) (alone_spots next (omega (arith, c.if-next-gt0.false)))))
    c.begun.ensures

pub grown-requires-clause-some : goal.grown-requires-clause-some
grown-requires-clause-some c = omega (arith, c.if-row-eq0.false)

pub grown-requires-clause-steps : goal.grown-requires-clause-steps
grown-requires-clause-steps c = c.requires (omega (arith, c.if-row-eq0.false))

pub returns : goal.returns
returns c =
    subst (λ (ss : List Spot). IfSome c.grown.result (IsRowOf c.args.depth (row_spots c.args.row.now ++ ss)))
    (sym (alone_spots c.args.next.now (omega (arith, c.if-next-gt0.false))))
    c.grown.ensures
