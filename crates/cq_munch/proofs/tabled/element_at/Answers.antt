use Rattle.std.proofs.Common.{sym, ◌∙◌}
use Rattle.cq_munch.proofs.Trying.{blank_there}
use Rattle.cq_munch.proofs.tabled.element_at.Goals as goal

pub returns-then-is_blank : goal.returns-then-is_blank
returns-then-is_blank g c =
    let x = g.X.Tabled in
    blank_there x.is_blank x.rows x.behind c.args.units.now c.args.at c.args.mode c.requires.inside c.after_blank.result (sym c.is_blank.ensures ∙ c.if-is_blank.true) c.after_blank.ensures
