use Rattle.std.proofs.Common.{sym, ◌∙◌}
use Rattle.cq_munch.specs.Characters.{characters}
use Rattle.cq_munch.proofs.Trying.{taken_at_test}
use Rattle.cq_lex_go.specs.Go.{rows, tests}
use Rattle.cq_lex_go.proofs.language.GoTabled.taken.Goals as goal

pub returns-then-opens_comment : goal.returns-then-opens_comment
returns-then-opens_comment c =
    taken_at_test (tests (characters c.args.units.now)) rows c.args.mode (characters c.args.units.now) c.block_comment.result 0
    (sym c.opens_comment.ensures ∙ c.if-opens_comment.true, c.block_comment.ensures)

pub returns-then-opens_comment-2 : goal.returns-then-opens_comment-2
returns-then-opens_comment-2 c =
    taken_at_test (tests (characters c.args.units.now)) rows c.args.mode (characters c.args.units.now) c.line_comment.result 1
    (sym c.opens_comment.ensures ∙ c.if-opens_comment.false, (sym c.opens_comment-2.ensures ∙ c.if-opens_comment-2.true, c.line_comment.ensures))

pub returns : goal.returns
returns c =
    taken_at_test (tests (characters c.args.units.now)) rows c.args.mode (characters c.args.units.now) c.element.result 2
    (sym c.opens_comment.ensures ∙ c.if-opens_comment.false, (sym c.opens_comment-2.ensures ∙ c.if-opens_comment-2.false, c.element.ensures))
