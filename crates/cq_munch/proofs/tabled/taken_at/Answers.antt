use Rattle.std.proofs.Common.{Some, None, sym, ◌∙◌}
use Rattle.cq_munch.proofs.Trying.{from_rest, mark_there, none_there, some_there, units_there}
use Rattle.cq_munch.proofs.tabled.taken_at.Goals as goal

pub returns-then-is_mark : goal.returns-then-is_mark
returns-then-is_mark g c =
    let x = g.X.Tabled in
    mark_there x.is_blank x.rows x.behind c.args.units.now c.args.at c.args.mode c.requires.inside c.after_blank.result (sym c.is_mark.ensures ∙ c.if-is_mark.true) c.after_blank.ensures

pub slice_bounds-mode_behind-end : goal.slice_bounds-mode_behind-end
slice_bounds-mode_behind-end g c =
    units_there c.args.units.now c.args.at c.in-Some.found.units (from_rest g.X.Tabled.rows c.args.units.now c.args.at c.args.mode (Some c.in-Some.found) c.in-Some.ensures).0.within

pub returns-in-None : goal.returns-in-None
returns-in-None g c =
    let x = g.X.Tabled in
    none_there x.is_blank x.rows x.behind c.args.units.now c.args.at c.args.mode c.requires.inside c.requires.visible (sym c.is_mark.ensures ∙ c.if-is_mark.false)
    (from_rest x.rows c.args.units.now c.args.at c.args.mode None c.in-None.ensures)

pub returns-in-Some : goal.returns-in-Some
returns-in-Some g c =
    let x = g.X.Tabled in
    some_there x.is_blank x.rows x.behind c.args.units.now c.args.at c.args.mode c.requires.inside c.requires.visible (sym c.is_mark.ensures ∙ c.if-is_mark.false) c.in-Some.found c.mode_behind.result
    (from_rest x.rows c.args.units.now c.args.at c.args.mode (Some c.in-Some.found) c.in-Some.ensures) c.mode_behind.ensures
