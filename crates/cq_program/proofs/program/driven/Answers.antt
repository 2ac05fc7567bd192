use Rattle.std.proofs.Common.{ℕ, ap, subst, subst₂, sym}
use Rattle.cq_base.specs.Settings.{IsInRange}
use Rattle.cq_base.specs.declared.settings.Settings.{Settings}
use Rattle.cq_drive.specs.Outcomes.{line_of}
use Rattle.cq_drive.specs.Script.{IsScript}
use Rattle.cq_lines.specs.Held.{Held}
use Rattle.cq_lines.specs.Serving.{Serves}
use Rattle.cq_program.proofs.program.driven.Goals as goal

pub drive-requires-clause-in_range : goal.drive-requires-clause-in_range
drive-requires-clause-in_range g c κs lives = subst IsInRange (sym c.plain-keyer.ensures) c.requires.in_range

pub returns-in-Ok-drive-clause-drives : goal.returns-in-Ok-drive-clause-drives
returns-in-Ok-drive-clause-drives g c = λ other. record {
  by = c.in-Ok-drive.end;
  status_is = c.status_of.ensures.status;
  serves = subst₂ (λ (s : Settings) (limit : ℕ). Serves line_of (IsScript s) limit (g.S.Source.rest c.args.source.now) (g.S.Source.rest c.drive.new.source) (g.K.Sink.written c.args.sink.now) (g.K.Sink.written c.drive.new.sink) c.in-Ok-drive.end) c.plain-keyer.ensures (ap (λ (held : Held). held.limit) c.in-Ok.ensures)
      c.in-Ok-drive.ensures.script;
  cause = c.in-Ok-drive.ensures.cause;
}
