use Rattle.std.proofs.Common.{◌∙◌, subst}
use Rattle.std.proofs.lemmas.Slice.Zip.{all_zipped_more}
use Rattle.cq_io.specs.Sending.{Sends}
use Rattle.cq_tokask.specs.Asked.{AnswersLine}
use Rattle.cq_tokask.proofs.asking.AskingAnswers.answer.Goals as goal

pub returns-clause-sent : goal.returns-clause-sent
returns-clause-sent g c = λ from first lines replies so.
    let (r, is, bytes) = c.told-line.ensures.told in (
      r,
      (all_zipped_more (AnswersLine c.args.self.now.kept.snapshot.now c.args.self.now.kept.settings.now) lines replies c.args.line.now r so.0 is, so.1, so.2),
      subst (λ piece. Sends (g.K.Sink.written c.args.sink.now) (g.K.Sink.written c.send.new.sink) piece c.send.result) (c.as_bytes.ensures ∙ bytes) c.send.ensures.bytes,
    )
