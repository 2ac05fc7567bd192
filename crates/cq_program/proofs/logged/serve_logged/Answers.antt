use Rattle.std.proofs.Common.{subst, sym}
use Rattle.cq_program.specs.Top.{Logs}
use Rattle.cq_program.specs.declared.status.Status.{Status}
use Rattle.cq_program.proofs.LogEnds.{logs_kept}
use Rattle.cq_program.proofs.logged.serve_logged.Goals as goal

pub returns-in-Ok : goal.returns-in-Ok
returns-in-Ok g c =
    let set = c.args.asked.settings in
    record {
      logs = subst (λ (s : Status). Logs g.S.Source g.K.Sink set c.args.source.now c.kept.new.source c.args.sink.now c.kept.new.sink s) (sym c.exit_of.ensures)
          (logs_kept g.S.Source g.K.Sink set c.args.source.now c.kept.new.source c.args.sink.now c.kept.new.sink c.in-Ok.kept c.in-Ok.ensures.log);
    }
