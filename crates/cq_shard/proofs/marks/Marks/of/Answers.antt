use Rattle.std.proofs.Common.{arith}
use Rattle.cq_shard.specs.Marks.{IsMarked}
use Rattle.cq_shard.proofs.Marking.{marked_more, marked_all}
use Rattle.cq_shard.proofs.marks.Marks.of.Goals as goal

pub loop-row-preserved : goal.loop-row-preserved
loop-row-preserved c = record {
  words = c.set.ensures.words;
  each = marked_more (IsMarked c.loop-row.marks) (IsMarked c.set.new.self) c.args.rows.now c.loop-row.row-index _ c.loop-row-test.true c.set.ensures.kept c.loop-row.invariant.each c.set.ensures.set;
}

pub returns : goal.returns
returns c = record {
  words = c.loop-row.invariant.words;
  each = marked_all (IsMarked c.loop-row.marks) c.args.rows.now c.loop-row.row-index (let past = c.loop-row-test.false in omega (arith, past)) c.loop-row.invariant.each;
}
