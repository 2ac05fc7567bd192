use Rattle.std.proofs.Common.{◌∙◌, subst}
use Rattle.std.proofs.lemmas.Slice.Zip.{all_zipped_more}
use Rattle.cq_io.specs.Sending.{Sends}
use Rattle.cq_reply.specs.declared.reply.Reply.TheVariants as reply
use Rattle.cq_tokask.proofs.Said.{answers_long}
use Rattle.cq_tokask.specs.Asked.{AnswersLine}
use Rattle.cq_tokask.proofs.asking.AskingAnswers.answer_long.Goals as goal

pub returns-clause-sent : goal.returns-clause-sent
returns-clause-sent g c = λ line long from first lines replies so.
    let s = c.args.self.now.kept.snapshot.now in
    let set = c.args.self.now.kept.settings.now in (
      reply.Long,
      (all_zipped_more (AnswersLine s set) lines replies line reply.Long so.0 (answers_long s set line long), so.1, so.2),
      subst (λ piece. Sends (g.K.Sink.written c.args.sink.now) (g.K.Sink.written c.send.new.sink) piece c.send.result) (c.as_bytes.ensures.bytes ∙ c.fixed.ensures) c.send.ensures.bytes,
    )
