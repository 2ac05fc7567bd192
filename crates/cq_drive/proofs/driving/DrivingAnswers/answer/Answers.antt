use Rattle.std.proofs.Common.{◌∙◌, inr, subst}
use Rattle.cq_io.specs.Sending.{Sends}
use Rattle.cq_drive.proofs.Runs.{come_more}
use Rattle.cq_drive.proofs.driving.DrivingAnswers.answer.Goals as goal

pub returns-clause-sent : goal.returns-clause-sent
returns-clause-sent g c = λ from first lines outcomes so.
    let was = so.0 in
    let comes = c.outcome_line-told.ensures.leads was.after was.stands in
    let (o, is, bytes) = comes.holds in (
      o,
      (
        record {
          after = comes.after;
          stands = comes.stands;
          comes = come_more c.args.self.now.driver.now.keyer.now.settings from was.after comes.after lines outcomes c.args.line.now o (inr (c.requires.short, is)) was.comes;
        },
        so.1,
      ),
      subst (λ piece. Sends (g.K.Sink.written c.args.sink.now) (g.K.Sink.written c.send.new.sink) piece c.send.result) (c.as_bytes.ensures ∙ bytes) c.send.ensures.bytes,
    )

pub returns-clause-ready : goal.returns-clause-ready
returns-clause-ready g c = (c.requires.ready.0, c.requires.ready.1, c.outcome_line-told.ensures.driven)
