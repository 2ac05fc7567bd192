use Rattle.std.proofs.Common.{◌∙◌, sym}
use Rattle.cq_munch.proofs.MarkWords.{word_short, word_other, word_same}
use Rattle.cq_munch.proofs.marking.begins_with.Goals as goal

pub returns-then-i-units : goal.returns-then-i-units
returns-then-i-units c = word_short c.args.word.now c.args.units.now c.loop-i.i c.loop-i.invariant c.loop-i-test.true c.if-i-units.true

pub returns-then-units-i : goal.returns-then-units-i
returns-then-units-i c = word_other c.args.word.now c.args.units.now c.loop-i.i c.loop-i.invariant c.loop-i-test.true c.if-i-units.false (λ same. c.if-units-i.true (same ∙ sym c.from.ensures))

pub loop-i-preserved : goal.loop-i-preserved
loop-i-preserved c = word_same c.args.word.now c.args.units.now c.loop-i.i c.loop-i.invariant c.loop-i-test.true c.if-i-units.false (c.if-units-i.false ∙ c.from.ensures)
