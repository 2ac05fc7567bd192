use Rattle.std.proofs.Common.{sym, ap, subst}
use Rattle.cq_base.specs.declared.settings.Settings.{Settings}
use Rattle.cq_make.specs.Made.{Makes}
use Rattle.cq_program.specs.Statuses.{status_of, end_of}
use Rattle.cq_program.proofs.program.made.Goals as goal

pub returns-in-Ok-Ok-clause-makes : goal.returns-in-Ok-Ok-clause-makes
returns-in-Ok-Ok-clause-makes g c = λ other. record {
  by = c.in-Ok-Ok.field-0;
  status_is = sym (ap (λ sent. status_of (end_of sent)) c.in-Ok-Ok.field-0-is);
  makes = subst (λ (set : Settings). Makes set c.args.asked.number c.args.asked.files (g.K.Sink.written c.args.sink.now) (g.K.Sink.written c.make.new.sink) c.in-Ok-Ok.field-0) c.default_settings.ensures.settings c.in-Ok-Ok.ensures.line;
  cause = c.in-Ok-Ok.ensures.cause;
}

pub returns-in-Ok-Err-clause-makes : goal.returns-in-Ok-Err-clause-makes
returns-in-Ok-Err-clause-makes g c = λ other. record {
  by = c.in-Ok-Err.field-0;
  status_is = sym (ap (λ sent. status_of (end_of sent)) c.in-Ok-Err.field-0-is);
  makes = subst (λ (set : Settings). Makes set c.args.asked.number c.args.asked.files (g.K.Sink.written c.args.sink.now) (g.K.Sink.written c.make.new.sink) c.in-Ok-Err.field-0) c.default_settings.ensures.settings c.in-Ok-Err.ensures.line;
  cause = c.in-Ok-Err.ensures.cause;
}
