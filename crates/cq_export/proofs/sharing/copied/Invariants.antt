use Rattle.std.proofs.Common.{◌≡◌, take}
use Rattle.std.specs.List.{AllByRecursion}
use Rattle.cq_export.proofs.sharing.copied.Given as goal
use Rattle.cq_tokform.specs.Sound.{IsSoundCondition}

abbrev pub invariant-loop-condition : goal.invariant-loop-condition
invariant-loop-condition l = record {
  same : l.copied.items ≡ take l.condition-index l.conditions;
  sound : AllByRecursion IsSoundCondition l.copied.items;
}
