use Rattle.std.proofs.Common.{sym, ◌∙◌}
use Rattle.cq_munch.specs.Characters.{characters}
use Rattle.cq_munch.proofs.CommentScans.{opened_line, not_opened_line, line_goes_on, line_ends_at, line_to_end}
use Rattle.cq_munch.proofs.comment.longest_line_comment.Goals as goal

pub returns-then-not-opens_comment : goal.returns-then-not-opens_comment
returns-then-not-opens_comment c = not_opened_line c.args.ends (characters c.args.units.now) (sym c.opens_comment.ensures ∙ c.if-not-opens_comment.true)

pub loop-at-init : goal.loop-at-init
loop-at-init c = opened_line c.args.ends (characters c.args.units.now) (sym c.opens_comment.ensures ∙ c.if-not-opens_comment.false)

pub returns-then-ends_line : goal.returns-then-ends_line
returns-then-ends_line c = line_ends_at c.args.ends c.args.units.now c.loop-at.at c.loop-at.invariant c.loop-at-test.true (sym c.if-ends_line.true ∙ c.ends_line.ensures)

pub loop-at-preserved : goal.loop-at-preserved
loop-at-preserved c = line_goes_on c.args.ends c.args.units.now c.loop-at.at c.loop-at.invariant c.loop-at-test.true (sym c.if-ends_line.false ∙ c.ends_line.ensures)

pub returns : goal.returns
returns c = line_to_end c.args.ends c.args.units.now c.loop-at.at c.loop-at.invariant c.loop-at-test.false
