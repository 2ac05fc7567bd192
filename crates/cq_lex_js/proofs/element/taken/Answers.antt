use Rattle.std.proofs.Common.{None, sym, ◌∙◌}
use Rattle.cq_munch.specs.Characters.{characters}
use Rattle.cq_munch.proofs.Trying.{taken_at_test}
use Rattle.cq_lex_js.specs.JavaScript.{rows, tests}
use Rattle.cq_lex_js.proofs.element.taken.Goals as goal

pub returns-then-opens_deeper : goal.returns-then-opens_deeper
returns-then-opens_deeper c =
    taken_at_test (tests c.args.mode (characters c.args.units.now)) rows c.args.mode (characters c.args.units.now) None 0
    (sym c.opens_deeper.ensures ∙ c.if-opens_deeper.true, λ m some within h. h.1)

pub returns-then-is_among_children : goal.returns-then-is_among_children
returns-then-is_among_children c =
    taken_at_test (tests c.args.mode (characters c.args.units.now)) rows c.args.mode (characters c.args.units.now) c.child.result 1
    (sym c.opens_deeper.ensures ∙ c.if-opens_deeper.false, (sym c.is_among_children.ensures ∙ c.if-is_among_children.true, c.child.ensures))

pub returns-then-opens_comment : goal.returns-then-opens_comment
returns-then-opens_comment c =
    taken_at_test (tests c.args.mode (characters c.args.units.now)) rows c.args.mode (characters c.args.units.now) c.block_comment.result 2
    (sym c.opens_deeper.ensures ∙ c.if-opens_deeper.false, (sym c.is_among_children.ensures ∙ c.if-is_among_children.false, (sym c.opens_comment.ensures ∙ c.if-opens_comment.true, c.block_comment.ensures)))

pub returns-then-opens_comment-2 : goal.returns-then-opens_comment-2
returns-then-opens_comment-2 c =
    taken_at_test (tests c.args.mode (characters c.args.units.now)) rows c.args.mode (characters c.args.units.now) c.line_comment.result 3
    (sym c.opens_deeper.ensures ∙ c.if-opens_deeper.false, (sym c.is_among_children.ensures ∙ c.if-is_among_children.false, (sym c.opens_comment.ensures ∙ c.if-opens_comment.false, (sym c.opens_comment-2.ensures ∙ c.if-opens_comment-2.true, c.line_comment.ensures))))

pub returns-then-is_in_tag : goal.returns-then-is_in_tag
returns-then-is_in_tag c =
    taken_at_test (tests c.args.mode (characters c.args.units.now)) rows c.args.mode (characters c.args.units.now) c.part_of_tag.result 4
    (sym c.opens_deeper.ensures ∙ c.if-opens_deeper.false, (sym c.is_among_children.ensures ∙ c.if-is_among_children.false, (sym c.opens_comment.ensures ∙ c.if-opens_comment.false, (sym c.opens_comment-2.ensures ∙ c.if-opens_comment-2.false, (sym c.is_in_tag.ensures ∙ c.if-is_in_tag.true, c.part_of_tag.ensures)))))

pub returns-then-opens_literal : goal.returns-then-opens_literal
returns-then-opens_literal c =
    taken_at_test (tests c.args.mode (characters c.args.units.now)) rows c.args.mode (characters c.args.units.now) c.closed_literal.result 5
    (sym c.opens_deeper.ensures ∙ c.if-opens_deeper.false, (sym c.is_among_children.ensures ∙ c.if-is_among_children.false, (sym c.opens_comment.ensures ∙ c.if-opens_comment.false, (sym c.opens_comment-2.ensures ∙ c.if-opens_comment-2.false, (sym c.is_in_tag.ensures ∙ c.if-is_in_tag.false, (sym c.opens_literal.ensures ∙ c.if-opens_literal.true, c.closed_literal.ensures))))))

pub returns-then-is_choice : goal.returns-then-is_choice
returns-then-is_choice c =
    taken_at_test (tests c.args.mode (characters c.args.units.now)) rows c.args.mode (characters c.args.units.now) c.sign_at.result 6
    (sym c.opens_deeper.ensures ∙ c.if-opens_deeper.false, (sym c.is_among_children.ensures ∙ c.if-is_among_children.false, (sym c.opens_comment.ensures ∙ c.if-opens_comment.false, (sym c.opens_comment-2.ensures ∙ c.if-opens_comment-2.false, (sym c.is_in_tag.ensures ∙ c.if-is_in_tag.false, (sym c.opens_literal.ensures ∙ c.if-opens_literal.false, (sym c.is_choice.ensures ∙ c.if-is_choice.true, c.sign_at.ensures)))))))

pub returns-then-is_after_point : goal.returns-then-is_after_point
returns-then-is_after_point c =
    taken_at_test (tests c.args.mode (characters c.args.units.now)) rows c.args.mode (characters c.args.units.now) c.property.result 7
    (sym c.opens_deeper.ensures ∙ c.if-opens_deeper.false, (sym c.is_among_children.ensures ∙ c.if-is_among_children.false, (sym c.opens_comment.ensures ∙ c.if-opens_comment.false, (sym c.opens_comment-2.ensures ∙ c.if-opens_comment-2.false, (sym c.is_in_tag.ensures ∙ c.if-is_in_tag.false, (sym c.opens_literal.ensures ∙ c.if-opens_literal.false, (sym c.is_choice.ensures ∙ c.if-is_choice.false, (sym c.is_after_point.ensures ∙ c.if-is_after_point.true, c.property.ensures))))))))

pub returns : goal.returns
returns c =
    taken_at_test (tests c.args.mode (characters c.args.units.now)) rows c.args.mode (characters c.args.units.now) c.element.result 8
    (sym c.opens_deeper.ensures ∙ c.if-opens_deeper.false, (sym c.is_among_children.ensures ∙ c.if-is_among_children.false, (sym c.opens_comment.ensures ∙ c.if-opens_comment.false, (sym c.opens_comment-2.ensures ∙ c.if-opens_comment-2.false, (sym c.is_in_tag.ensures ∙ c.if-is_in_tag.false, (sym c.opens_literal.ensures ∙ c.if-opens_literal.false, (sym c.is_choice.ensures ∙ c.if-is_choice.false, (sym c.is_after_point.ensures ∙ c.if-is_after_point.false, c.element.ensures))))))))
