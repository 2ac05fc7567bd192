use Rattle.cq_lines.proofs.serve.UnstoppedAnswersUntil.answer_long.Goals as goal

pub returns-in-Ok-clause-sent : goal.returns-in-Ok-clause-sent
returns-in-Ok-clause-sent g c = λ line long from first lines replies so. let (reply, are, sent) = c.in-Ok.ensures.sent line long from first.answers.now lines replies so.0 in (reply, (are, so.1), sent)

pub returns-in-Err-clause-sent : goal.returns-in-Err-clause-sent
returns-in-Err-clause-sent g c = λ line long from first lines replies so. let (reply, are, sent) = c.in-Err.ensures.sent line long from first.answers.now lines replies so.0 in (reply, (are, so.1), sent)
