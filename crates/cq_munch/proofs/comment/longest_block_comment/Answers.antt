use Rattle.std.proofs.Common.{sym, ◌∙◌, arith}
use Rattle.cq_munch.specs.Characters.{characters}
use Rattle.cq_munch.proofs.CommentScans.{opened_block, not_opened_block, one_open, two_open, closed_here, never_closed}
use Rattle.cq_munch.proofs.comment.longest_block_comment.Goals as goal

pub returns-then-not-opens_comment : goal.returns-then-not-opens_comment
returns-then-not-opens_comment c = not_opened_block (characters c.args.units.now) (sym c.opens_comment.ensures ∙ c.if-not-opens_comment.true)

pub loop-before-init : goal.loop-before-init
loop-before-init c = record { near = omega arith; scan = opened_block (characters c.args.units.now) (sym c.opens_comment.ensures ∙ c.if-not-opens_comment.false) }

pub returns-then-closes : goal.returns-then-closes
returns-then-closes c = closed_here c.args.units.now c.loop-before.before c.loop-before-test.true c.loop-before.invariant.scan (sym c.if-closes.true ∙ c.closes.ensures)

pub loop-before-preserved-then-ch-eq42 : goal.loop-before-preserved-then-ch-eq42
loop-before-preserved-then-ch-eq42 c = record {
  near = omega arith;
  scan = one_open c.args.units.now c.loop-before.before c.loop-before-test.true c.loop-before.invariant.scan (sym c.if-closes.false ∙ c.closes.ensures);
}

pub loop-before-preserved : goal.loop-before-preserved
loop-before-preserved c = record {
  near = omega arith;
  scan = two_open c.args.units.now c.loop-before.before c.loop-before-test.true c.loop-before.invariant.scan (sym c.if-closes.false ∙ c.closes.ensures) c.if-ch-eq42.false;
}

pub returns : goal.returns
returns c = never_closed c.args.units.now c.loop-before.before c.loop-before.invariant.scan c.loop-before-test.false
