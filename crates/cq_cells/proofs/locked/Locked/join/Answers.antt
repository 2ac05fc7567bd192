use Rattle.std.proofs.Common.{rules, ap, ◌∙◌}
use Rattle.cq_cells.proofs.Keeps.{joins_pass, compares_as}
use Rattle.cq_cells.proofs.locked.Locked.join.Goals as goal

pub join_seat-requires : goal.join_seat-requires
join_seat-requires g c = let mine = c.requires.free.0 in let theirs = c.requires.free.1 in
    (search rules, search rules, search rules, search rules, joins_pass g.L.CellLaw.lawful g.L.CellLaw.fits g.L.CellLaw.asks g.L.CellLaw.caller g.L.CellLaw.lasts g.L.CellLaw.total c.args.self.now.table.shared.key _ _ _ _ mine.0 mine.2.0 mine.2.1 theirs.2.0 theirs.2.1 theirs.0)

pub load-requires : goal.load-requires
load-requires g c = (search rules, search rules, compares_as g.L.CellLaw.lawful g.L.CellLaw.fits g.L.CellLaw.asks g.L.CellLaw.caller g.L.CellLaw.lasts g.L.CellLaw.total c.args.self.now.table.shared.key _ _ _ _ (ap (λ m. m.0.hand) c.join_seat.ensures.2 ∙ c.requires.free.0.0))
