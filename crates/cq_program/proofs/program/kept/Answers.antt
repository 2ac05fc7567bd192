use Rattle.std.proofs.Common.{subst, sym}
use Rattle.cq_base.specs.Settings.{IsInRange}
use Rattle.cq_program.specs.Statuses.{Ends}
use Rattle.cq_program.specs.declared.status.Status.{Status}
use Rattle.cq_program.proofs.Ended.{ended_asked}
use Rattle.cq_program.proofs.program.kept.Goals as goal

pub ask-requires : goal.ask-requires
ask-requires g c = (search, subst IsInRange (sym c.plain-keyer.ensures) c.requires.in_range)

pub returns-in-Ok-clause-ends : goal.returns-in-Ok-clause-ends
returns-in-Ok-clause-ends g c =
    subst (λ (s : Status). Ends g.S.Source g.K.Sink s c.args.source.now c.ask.new.source c.args.sink.now c.ask.new.sink) (sym c.status_of_asked.ensures.status)
    (ended_asked g.row.L.Denot g.S.Source g.K.Sink c.args.settings.now c.args.source.now c.ask.new.source c.args.sink.now c.ask.new.sink c.in-Ok.asked (rw c.plain-keyer.ensures at c.in-Ok.ensures.asks))

pub returns-in-Ok-clause-asks : goal.returns-in-Ok-clause-asks
returns-in-Ok-clause-asks g c = λ other. record {
  by = c.in-Ok.asked;
  status_is = c.status_of_asked.ensures.status;
  asks = rw c.plain-keyer.ensures at c.in-Ok.ensures.asks;
}

pub returns-clause-no_line : goal.returns-clause-no_line
returns-clause-no_line g c = λ is. rw c.plain-keyer.ensures at c.in-Err.ensures.no_line
