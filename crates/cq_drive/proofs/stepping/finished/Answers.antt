use Rattle.std.proofs.Common.{true≢false, sym, subst}
use Rattle.std.specs.Prelude.{IsSome}
use Rattle.cq_drive.proofs.Taken.{not_again}
use Rattle.cq_drive.proofs.stepping.finished.Goals as goal

pub returns-in-None-clause-led : goal.returns-in-None-clause-led
returns-in-None-clause-led g c = not_again g.row.L.Denot c.args.keyer.now.settings c.args.core.now c.args.by c.args.change c.requires.driven (λ undone. true≢false (sym (subst IsSome c.in-None.is (c.in_ok-job.ensures.some.1 undone))))
