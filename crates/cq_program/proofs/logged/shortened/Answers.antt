use Rattle.std.proofs.Common.{subst, sym}
use Rattle.cq_program.specs.Statuses.{Ends}
use Rattle.cq_program.specs.declared.status.Status.{Status}
use Rattle.cq_program.proofs.LogEnds.{ended_shortened}
use Rattle.cq_program.proofs.logged.shortened.Goals as goal

pub returns-in-Ok-clause-ends : goal.returns-in-Ok-clause-ends
returns-in-Ok-clause-ends g c =
    subst (λ (s : Status). Ends g.S.Source g.K.Sink s c.args.source.now c.shorten.new.source c.args.sink.now c.shorten.new.sink) (sym c.status_of_shortened.ensures.status)
    (ended_shortened g.S.Source g.K.Sink c.args.settings.now c.args.source.now c.shorten.new.source c.args.sink.now c.shorten.new.sink c.in-Ok.ended c.in-Ok.ensures.shortens)

pub returns-in-Ok-clause-shortens : goal.returns-in-Ok-clause-shortens
returns-in-Ok-clause-shortens g c = λ other. (c.in-Ok.ended, c.status_of_shortened.ensures.status, c.in-Ok.ensures.shortens)
