use Rattle.std.proofs.Common.{Some, sym, ◌∙◌}
use Rattle.cq_munch.specs.Characters.{characters}
use Rattle.cq_munch.proofs.Joining.{one_row_taken}
use Rattle.cq_munch.proofs.Trying.{taken_at_test}
use Rattle.cq_lex_c.specs.C.{headers, rows, tests}
use Rattle.cq_lex_c.proofs.element.taken.Goals as goal

pub returns-in-Some : goal.returns-in-Some
returns-in-Some c =
    taken_at_test (tests c.args.mode (characters c.args.units.now)) rows c.args.mode (characters c.args.units.now) c.found_of.result 0
    (c.in-Some.ensures.some.0, one_row_taken 0 c.args.mode (characters c.args.units.now) headers (Some c.in-Some.n) c.found_of.result c.found_of.ensures c.in-Some.ensures.some.1)

pub returns-then-opens_comment : goal.returns-then-opens_comment
returns-then-opens_comment c =
    taken_at_test (tests c.args.mode (characters c.args.units.now)) rows c.args.mode (characters c.args.units.now) c.block_comment.result 1
    (c.in_default.ensures.none, (sym c.opens_comment.ensures ∙ c.if-opens_comment.true, c.block_comment.ensures))

pub returns-then-opens_comment-2 : goal.returns-then-opens_comment-2
returns-then-opens_comment-2 c =
    taken_at_test (tests c.args.mode (characters c.args.units.now)) rows c.args.mode (characters c.args.units.now) c.line_comment.result 2
    (c.in_default.ensures.none, (sym c.opens_comment.ensures ∙ c.if-opens_comment.false, (sym c.opens_comment-2.ensures ∙ c.if-opens_comment-2.true, c.line_comment.ensures)))

pub returns : goal.returns
returns c =
    taken_at_test (tests c.args.mode (characters c.args.units.now)) rows c.args.mode (characters c.args.units.now) c.element.result 3
    (c.in_default.ensures.none, (sym c.opens_comment.ensures ∙ c.if-opens_comment.false, (sym c.opens_comment-2.ensures ∙ c.if-opens_comment-2.false, c.element.ensures)))
