use Rattle.std.proofs.Common.{sym, ◌∙◌}
use Rattle.cq_munch.specs.Characters.{characters}
use Rattle.cq_munch.proofs.Reserved.{found_here, found_later, found_nowhere}
use Rattle.cq_munch.proofs.words.is_among.Goals as goal

pub returns-then-is_spelled : goal.returns-then-is_spelled
returns-then-is_spelled c =
    found_here (characters c.args.name.now) c.args.words.now c.loop-word.word-index c.loop-word.invariant _ c.loop-word-test.true (sym c.is_spelled.ensures ∙ c.if-is_spelled.true)

pub loop-word-preserved : goal.loop-word-preserved
loop-word-preserved c =
    found_later (characters c.args.name.now) c.args.words.now c.loop-word.word-index c.loop-word.invariant _ c.loop-word-test.true (sym c.is_spelled.ensures ∙ c.if-is_spelled.false)

pub returns : goal.returns
returns c = found_nowhere (characters c.args.name.now) c.args.words.now c.loop-word.word-index c.loop-word.invariant c.loop-word-test.false
