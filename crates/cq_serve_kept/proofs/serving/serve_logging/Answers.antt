use Rattle.std.proofs.Common.{Bool, [], sym, subst}
use Rattle.cq_base.specs.declared.settings.Settings.{Settings}
use Rattle.cq_history.specs.State.{accepted}
use Rattle.cq_lines.specs.LineLogs.{log_at}
use Rattle.cq_keeper.specs.Kept.{IsLogOf}
use Rattle.cq_serve_kept.specs.Continued.{EndsLogged}
use Rattle.cq_serve_kept.proofs.Ending.{ends_logged, log_begins}
use Rattle.cq_serve_kept.proofs.serving.serve_logging.Goals as goal

pub new-log-requires-clause-log : goal.new-log-requires-clause-log
new-log-requires-clause-log g c =
    let sink = c.args.log.sink.now in
    subst (λ (whole : Bool). IsLogOf g.K.Sink g.N.LogOf (log_at sink whole) c.args.pass) (sym c.requires.whole)
    (log_begins g.K.Sink g.N.LogOf c.args.hub.now c.requires.cells (accepted c.args.pass.seen) (sym c.requires.before) sink sink (sym c.requires.begun) (sym c.requires.faults) c.args.pass c.requires.first c.requires.before)

pub returns-clause-ends : goal.returns-clause-ends
returns-clause-ends g c =
    let old = c.args.log.sink.now in
    let log = c.into_log-log.result.0 in
    subst (λ (set : Settings). EndsLogged g.K.Sink set [] (accepted c.args.pass.seen) old log.sink.now log.whole) c.requires.settings
    (ends_logged g.K.Sink g.N.LogOf c.args.hub.now c.requires.cells (accepted c.args.pass.seen) (sym c.requires.before) old log.sink.now (sym c.requires.begun) (sym c.requires.faults) c.into_log-log.result.1 log.whole c.into_log-log.ensures.log)
