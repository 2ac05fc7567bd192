use Rattle.std.proofs.Common.{◌∙◌, inl, refl, subst}
use Rattle.cq_io.specs.Sending.{Sends}
use Rattle.cq_reply.specs.declared.reply.Reply.TheVariants as reply
use Rattle.cq_drive.specs.declared.outcome.ScriptOutcome.TheVariants as outcome
use Rattle.cq_drive.proofs.Runs.{come_more}
use Rattle.cq_drive.proofs.driving.DrivingAnswers.answer_long.Goals as goal

pub returns-clause-sent : goal.returns-clause-sent
returns-clause-sent g c = λ line long from first lines outcomes so.
    let was = so.0 in (
      outcome.Reply reply.Long,
      (
        record {
          after = was.after;
          stands = was.stands;
          comes = come_more c.args.self.now.driver.now.keyer.now.settings from was.after was.after lines outcomes line (outcome.Reply reply.Long) (inl (long, (refl, refl))) was.comes;
        },
        so.1,
      ),
      subst (λ piece. Sends (g.K.Sink.written c.args.sink.now) (g.K.Sink.written c.send.new.sink) piece c.send.result) (c.as_bytes.ensures.bytes ∙ c.fixed.ensures) c.send.ensures.bytes,
    )
