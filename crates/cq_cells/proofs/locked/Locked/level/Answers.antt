use Rattle.std.proofs.Common.{rules}
use Rattle.cq_cells.proofs.Keeps.{splits_witness}
use Rattle.cq_cells.proofs.locked.Locked.level.Goals as goal

pub split_seat-seen-requires : goal.split_seat-seen-requires
split_seat-seen-requires g c = (search rules, search rules, splits_witness g.L.CellLaw.lawful g.L.CellLaw.fits g.L.CellLaw.asks g.L.CellLaw.caller g.L.CellLaw.lasts g.L.CellLaw.total c.args.self.now.table.shared.key _ _ c.requires.free.1.0)
