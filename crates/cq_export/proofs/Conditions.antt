-- Conditions that are copied one by one.
use Rattle.std.proofs.Common.{List, [], ◌∷◌, ◌++◌}
use Rattle.std.specs.List.{AllByRecursion}
use Rattle.cq_base.specs.declared.change.Condition.{Condition}
use Rattle.cq_tokform.specs.Sound.{IsSoundCondition}

pub sound_push : (conditions : List Condition) (c : Condition) → AllByRecursion IsSoundCondition conditions → IsSoundCondition c → AllByRecursion IsSoundCondition (conditions ++ c ∷ [])
sound_push [] c each one = (one, tt)
sound_push (d ∷ conditions) c each one = (each.0, sound_push conditions c each.1 one)
