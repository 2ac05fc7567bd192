use Rattle.std.proofs.Common.{sym, subst, List}
use Rattle.cq_cells.specs.declared.item.Item.{Item}
use Rattle.cq_cells.specs.Steps.{AllFit}
use Rattle.cq_cells.specs.Items.{Fits}
use Rattle.cq_cells.proofs.Passing.{all_fit}
use Rattle.cq_cells.proofs.cells.Cells.new.Goals as goal

pub new-requires-clause-fits : goal.new-requires-clause-fits
new-requires-clause-fits g c =
    let board = g.L.Law.board c.args.about.now in
    let shard = g.L.Law.shard c.args.about.now in
    subst (λ (l : List (Item g.row.B.Denot g.row.S.Denot)). AllFit (Fits board shard) 0 l) (sym c.in_ok-values.ensures)
    (all_fit board shard c.args.board c.args.shards.items c.requires.board c.requires.shards)
