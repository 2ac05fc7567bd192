use Rattle.std.proofs.Common.{rules, refl, subst}
use Rattle.cq_base.specs.declared.settings.Settings.{Settings}
use Rattle.cq_history.specs.Core.{first_core}
use Rattle.cq_lines.proofs.Serving.{serves_as}
use Rattle.cq_drive.specs.Outcomes.{line_of}
use Rattle.cq_drive.specs.Script.{ComeTo, ComeFrom}
use Rattle.cq_drive.proofs.driving.drive.Goals as goal

pub serve_lines-requires-clause-ready : goal.serve_lines-requires-clause-ready
serve_lines-requires-clause-ready g c =
    let first = first_core c.args.driver.now.keyer.now.settings.shards in
    let core = c.in_ok-core.ensures in
    (search rules, c.requires.in_range, record { settings = core.settings; callers = core.callers; past = (first, core.stands) })

pub returns-clause-script : goal.returns-clause-script
returns-clause-script g c =
    let set = c.args.driver.now.keyer.now.settings in
    let first = first_core set.shards in
    serves_as line_of _ (ComeFrom set first) (λ lines outcomes is. (is.0.after, subst (λ (s : Settings). ComeTo s first lines outcomes is.0.after) is.1 is.0.comes)) _ _ _ _ _ _
    (c.serve_lines.ensures.served first (record { after = first; stands = c.in_ok-core.ensures.stands; comes = refl }, refl))
