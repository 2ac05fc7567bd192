use Rattle.std.proofs.Common.{rules, None, subst, ◌≡◌, ℕ}
use Rattle.std.specs.Prelude.{IfSome}
use Rattle.cq_cells.specs.Rule.{MayNote}
use Rattle.cq_cells.proofs.Keeps.{notes_as}
use Rattle.cq_cells.proofs.locked.Locked.note.Goals as goal

pub load-requires : goal.load-requires
load-requires g c =
    let t = c.requires.hand in
    let cells : c.args.self.now.count ≡ c.args.self.now.table.shared.table_id.slots = search rules in (
      search rules,
      search rules,
      notes_as g.L.CellLaw.lawful g.L.CellLaw.fits g.L.CellLaw.asks g.L.CellLaw.caller g.L.CellLaw.lasts g.L.CellLaw.total c.args.self.now.table.shared.key _ _ _ _ t.0 None g.N.Noting.event t.1.0
          (subst (λ (n : ℕ). IfSome g.N.Noting.event (λ e. (c.args.cell ≡ 0) × MayNote (g.L.CellLaw.lawful c.args.self.now.table.shared.key) g.L.CellLaw.asks g.L.CellLaw.caller n c.args.pass.now.me.0 c.args.pass.now.me.0.seen e)) cells c.requires.lawful),
    )
