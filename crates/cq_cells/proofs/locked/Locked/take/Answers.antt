use Rattle.std.proofs.Common.{rules, ◌∷◌, Some, sym, ap, ◌∙◌}
use mathlib.Core.Option.{none}
use Rattle.atomic_table.specs.Table.{rest}
use Rattle.cq_cells.proofs.Keeps.{takes_cell}
use Rattle.cq_cells.proofs.locked.Locked.take.Goals as goal

pub compare_exchange-requires : goal.compare_exchange-requires
compare_exchange-requires g c = (search rules, search rules, takes_cell g.L.CellLaw.lawful g.L.CellLaw.fits g.L.CellLaw.asks g.L.CellLaw.caller g.L.CellLaw.lasts g.L.CellLaw.total c.args.self.now.table.shared.key _ _ _ _ _ none (search rules) (ap (λ m. m.0.hand) c.loop.invariant.2 ∙ c.requires.free.0) (search rules))

pub exchange-requires : goal.exchange-requires
exchange-requires g c = let t = c.compare_exchange.ensures.2.0 c.if-compare_exchange-found.true in
    let carried = ap (λ m. m.1) t.3 in
    (search rules, (Some t.0, carried ∙ ap (λ l. (c.args.cell, Some t.0) ∷ rest l) (sym carried)))
