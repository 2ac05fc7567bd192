use Rattle.std.proofs.Common.{rules}
use Rattle.cq_cells.proofs.Keeps.{splits_pass}
use Rattle.cq_cells.proofs.locked.Locked.split.Goals as goal

pub split_seat-requires : goal.split_seat-requires
split_seat-requires g c = let f = c.requires.free in
    (search rules, search rules, splits_pass g.L.CellLaw.lawful g.L.CellLaw.fits g.L.CellLaw.asks g.L.CellLaw.caller g.L.CellLaw.lasts g.L.CellLaw.total c.args.self.now.table.shared.key _ _ f.0 c.requires.room f.2.1)
