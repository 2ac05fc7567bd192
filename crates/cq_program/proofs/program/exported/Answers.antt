use Rattle.std.proofs.Common.{subst, sym}
use Rattle.cq_base.specs.Settings.{IsInRange}
use Rattle.cq_program.specs.Statuses.{Ends}
use Rattle.cq_program.specs.declared.status.Status.{Status}
use Rattle.cq_program.proofs.Ended.{ended_exported}
use Rattle.cq_program.proofs.program.exported.Goals as goal

pub export-requires-clause-in_range : goal.export-requires-clause-in_range
export-requires-clause-in_range g c = subst IsInRange (sym c.plain-keyer.ensures) c.requires.in_range

pub returns-in-Ok-clause-ends : goal.returns-in-Ok-clause-ends
returns-in-Ok-clause-ends g c =
    subst (λ (s : Status). Ends g.S.Source g.K.Sink s c.args.source.now c.export.new.source c.args.sink.now c.export.new.sink) (sym c.status_of_exported.ensures.status)
    (ended_exported g.row.L.Denot g.S.Source g.K.Sink c.args.asked.now.settings c.args.source.now c.export.new.source c.args.sink.now c.export.new.sink c.args.asked.now.project c.in-Ok.ended (rw c.plain-keyer.ensures at c.in-Ok.ensures.exports))

pub returns-in-Ok-clause-exports : goal.returns-in-Ok-clause-exports
returns-in-Ok-clause-exports g c = λ other. record {
  by = c.in-Ok.ended;
  status_is = c.status_of_exported.ensures.status;
  exports = rw c.plain-keyer.ensures at c.in-Ok.ensures.exports;
}
