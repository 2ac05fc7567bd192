use Rattle.std.proofs.Common.{sym, ◌∙◌, arith}
use Rattle.cq_munch.proofs.Reserved.{other_length, spelled_other, spelled_on, spelled_whole}
use Rattle.cq_munch.proofs.words.is_spelled.Goals as goal

pub returns-then-word-units : goal.returns-then-word-units
returns-then-word-units c = other_length c.args.word.now c.args.units.now c.if-word-units.true

pub returns-then-units-i : goal.returns-then-units-i
returns-then-units-i c =
    spelled_other c.args.word.now c.args.units.now c.loop-i.i c.loop-i.invariant c.loop-i-test.true (omega (arith, c.loop-i-test.true, c.if-word-units.false)) (λ same. c.if-units-i.true (same ∙ sym c.from.ensures))

pub loop-i-preserved : goal.loop-i-preserved
loop-i-preserved c = spelled_on c.args.word.now c.args.units.now c.loop-i.i c.loop-i.invariant c.loop-i-test.true (omega (arith, c.loop-i-test.true, c.if-word-units.false)) (c.if-units-i.false ∙ c.from.ensures)

pub returns : goal.returns
returns c = spelled_whole c.args.word.now c.args.units.now c.loop-i.i c.loop-i.invariant c.loop-i-test.false c.if-word-units.false
