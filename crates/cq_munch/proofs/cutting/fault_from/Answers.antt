use Rattle.cq_munch.proofs.Elements.{one_gone, stays_inside}
use Rattle.cq_munch.proofs.cutting.fault_from.Goals as goal

pub loop-at-preserved : goal.loop-at-preserved
loop-at-preserved g c =
    let taken = c.in-Some.ensures.taken in
    record {
      gone = one_gone c.loop-at.invariant.gone c.in-Some.found taken (stays_inside c.args.units.now c.loop-at.at _ c.loop-at-test.true taken.0.within);
      remembered = c.longest.ensures.remembered;
    }
