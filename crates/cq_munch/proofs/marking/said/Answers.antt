use Rattle.std.proofs.Common.{sym, ◌∙◌, arith}
use Rattle.cq_munch.proofs.MarkWords.{said_step, said_skip, said_end}
use Rattle.cq_munch.proofs.marking.said.Goals as goal

pub loop-at-preserved-then-not-leads : goal.loop-at-preserved-then-not-leads
loop-at-preserved-then-not-leads c = record {
  inside = omega arith;
  so_far = said_skip c.args.units.now c.loop-at.at c.loop-at.last c.loop-at-test.true c.loop-at.invariant.so_far (sym c.leads.ensures ∙ c.if-not-leads.true);
}

pub loop-at-preserved : goal.loop-at-preserved
loop-at-preserved c = record {
  inside = omega arith;
  so_far = said_step c.args.units.now c.loop-at.at c.loop-at.last _ (omega arith) c.loop-at.invariant.so_far c.said_here-last.ensures;
}

pub returns : goal.returns
returns c = said_end c.args.units.now c.loop-at.at c.loop-at.last (omega arith) c.loop-at.invariant.so_far
