use Rattle.std.proofs.Common.{sym}
use Rattle.cq_drive.proofs.InView.{not_answered}
use Rattle.cq_drive.proofs.viewing.reply.Goals as goal

pub returns-in-None-clause-led : goal.returns-in-None-clause-led
returns-in-None-clause-led g c = not_answered g.row.L.Denot c.args.driver.now.keyer.now.settings c.args.core.now c.args.by c.args.query.now c.requires.driven (sym c.in-None.ensures.version)
