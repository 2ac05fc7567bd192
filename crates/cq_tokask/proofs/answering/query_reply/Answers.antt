use Rattle.std.proofs.Common.{◌≡◌, ◌∙◌, List, true, false, sym, subst}
use Rattle.std.specs.Str.{bytes_eq}
use Rattle.std.proofs.lemmas.Result.{IfOk-weaker}
use Rattle.cq_answer.specs.Given.{AreGiven, IsReplyOf}
use Rattle.cq_base.specs.declared.change.Condition.{Condition}
use Rattle.cq_tokask.proofs.GivenFiles.{given_snapshot}
use Rattle.cq_tokask.proofs.Said.{answers_later, answers_now, of_project, of_other}
use Rattle.cq_tokask.proofs.answering.query_reply.Goals as goal

pub returns-then-query-kept-clause-answers : goal.returns-then-query-kept-clause-answers
returns-then-query-kept-clause-answers g c = answers_later c.args.kept.now.snapshot.now c.args.query.now c.if-query-kept.true

pub returns-then-not-is_same-clause-answers : goal.returns-then-not-is_same-clause-answers
returns-then-not-is_same-clause-answers g c =
    let other : bytes_eq c.args.query.now.project c.args.kept.now.snapshot.now.project ≡ false = sym c.is_same.ensures.test ∙ c.if-not-is_same.true in
    IfOk-weaker c.reply_to_other.result _ _ (λ r is. answers_now c.args.kept.now.snapshot.now c.args.query.now r c.if-query-kept.false (of_other c.args.kept.now.snapshot.now c.args.query.now r other is)) c.reply_to_other.ensures.given

pub answer-requires-clause-given : goal.answer-requires-clause-given
answer-requires-clause-given g c κs lives =
    subst (λ (cs : List Condition). AreGiven c.args.kept.now.settings.now c.args.kept.now.snapshot.now.files cs) (sym c.as_slice.ensures.value) (given_snapshot c.args.kept.now.settings.now c.args.kept.now.snapshot.now c.requires.in_range c.requires.sound)

pub answer-requires-clause-for_changes : goal.answer-requires-clause-for_changes
answer-requires-clause-for_changes g c κs lives = c.requires.loaded.changes

pub answer-requires-clause-for_keys : goal.answer-requires-clause-for_keys
answer-requires-clause-for_keys g c κs lives = c.requires.loaded.keys

pub returns-clause-answers : goal.returns-clause-answers
returns-clause-answers g c =
    let same : bytes_eq c.args.query.now.project c.args.kept.now.snapshot.now.project ≡ true = sym c.is_same.ensures.test ∙ c.if-not-is_same.false in
    IfOk-weaker c.answer.result _ _ (λ r is. answers_now c.args.kept.now.snapshot.now c.args.query.now r c.if-query-kept.false
    (of_project c.args.kept.now.snapshot.now c.args.query.now r same (subst (λ (cs : List Condition). IsReplyOf c.args.kept.now.snapshot.now.files cs c.args.query.now c.args.kept.now.snapshot.now.version r) c.as_slice.ensures.value is))) c.answer.ensures.given

pub returns-clause-loaded : goal.returns-clause-loaded
returns-clause-loaded g c = record { changes = c.answer.ensures.same_changes ∙ c.requires.loaded.changes; keys = c.answer.ensures.same_keys ∙ c.requires.loaded.keys }
