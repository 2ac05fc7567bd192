use Rattle.std.proofs.Common.{rules, arith, ◌≡◌, ◌*◌, ◌/◌, [], ◌∷◌, ◌++◌, Some, sym, ap, ◌∙◌, subst}
use Rattle.std.specs.Prelude.{option_to_list}
use Rattle.atomic_table.specs.Table.{rest}
use Rattle.cq_cells.specs.Counts.{least_of, more_known}
use Rattle.cq_cells.specs.Steps.{Fitting, noted_of}
use Rattle.cq_cells.proofs.Keeps.{releases_as}
use Rattle.cq_cells.proofs.locked.Locked.release.Goals as goal

pub store-requires : goal.store-requires
store-requires g c =
    let t = c.requires.hand in
    let h = t.2 in
    let now = c.exchange.ensures.3 in
    let seen_is = ap (λ m. m.0.seen) now in (
      search rules,
      search rules,
      releases_as g.L.CellLaw.lawful g.L.CellLaw.fits g.L.CellLaw.asks g.L.CellLaw.caller g.L.CellLaw.lasts g.L.CellLaw.total c.args.self.now.table.shared.key _ _ _ _ c.args.count t.0 c.args.value t.1 []
          (ap (λ m. m.0.hand) now ∙ h.0) (ap (λ m. m.1) now ∙ ap (λ l. (c.args.cell, Some c.args.value) ∷ rest l) h.1) (ap (λ m. m.0.joined) now ∙ h.2.1) c.requires.count
          (subst (λ l. Fitting (g.L.CellLaw.lawful c.args.self.now.table.shared.key) (g.L.CellLaw.fits c.args.self.now.table.shared.key) l c.args.cell t.0 t.1 c.args.count c.args.value) (sym seen_is) (c.requires.fits t.0 t.1 h)),
    )

pub returns-clause-seen : goal.returns-clause-seen
returns-clause-seen g c =
    let now = c.exchange.ensures.3 in
    ap (λ m. m.0.seen) c.store.ensures.2.0 ∙ (λ i. (now i).0.seen ++ option_to_list (noted_of (now i).0.hand))

pub returns-clause-known : goal.returns-clause-known
returns-clause-known g c =
    let known_is = ap (λ m. m.0.known) c.exchange.ensures.3 in
    let half : 2 * c.args.count / 2 ≡ c.args.count = omega arith in
    ap (λ m. m.0.known) c.store.ensures.2.0 ∙ (λ i. more_known c.args.cell (half i) (known_is i))

pub returns-clause-reached : goal.returns-clause-reached
returns-clause-reached g c = λ ne.
    let known_is = ap (λ m. least_of c.args.cell m.0.known) c.exchange.ensures.3 in
    let low = c.store.ensures.2.1 ne in omega arith
