use Rattle.std.proofs.Common.{arith}
use Rattle.cq_lex_java.proofs.Spans.{one_mark, no_mark, all_marks}
use Rattle.cq_lex_java.proofs.escape.marks_of.Goals as goal

pub returns-then-unit-ne117-clause-marks : goal.returns-then-unit-ne117-clause-marks
returns-then-unit-ne117-clause-marks c = no_mark c.args.units.now c.loop-unit.unit-index c.loop-unit.marks c.loop-unit-test.true c.loop-unit.invariant.so_far c.if-unit-ne117.true

pub loop-unit-preserved : goal.loop-unit-preserved
loop-unit-preserved c = record {
  counted = omega (arith, c.loop-unit.invariant.counted);
  so_far = one_mark c.args.units.now c.loop-unit.unit-index c.loop-unit.marks c.loop-unit-test.true c.loop-unit.invariant.so_far c.if-unit-ne117.false;
}

pub returns-clause-marks : goal.returns-clause-marks
returns-clause-marks c = all_marks c.args.units.now c.loop-unit.unit-index c.loop-unit.marks c.loop-unit-test.false c.loop-unit.invariant.so_far
