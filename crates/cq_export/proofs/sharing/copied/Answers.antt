use Rattle.std.proofs.Common.{List, arith, sym, subst}
use Rattle.std.proofs.lemmas.Grind.{common_steps}
use Rattle.std.specs.List.{AllByRecursion}
use Rattle.cq_base.specs.declared.change.Condition.{Condition}
use Rattle.cq_export.proofs.Conditions.{sound_push}
use Rattle.cq_export.proofs.sharing.copied.Goals as goal
use Rattle.cq_tokform.specs.Sound.{IsSoundCondition}

pub loop-condition-preserved : goal.loop-condition-preserved
loop-condition-preserved c = record {
  same = grind (arith, common_steps);
  sound = subst (λ (cs : List Condition). AllByRecursion IsSoundCondition cs) (sym c.in_ok-push.ensures.items) (sound_push c.loop-condition.copied.items c.as_read.result c.loop-condition.invariant.sound c.as_read.ensures.sound);
}
