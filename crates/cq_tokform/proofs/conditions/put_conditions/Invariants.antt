use Rattle.std.proofs.Common.{◌≡◌, ◌++◌, length, take}
use Rattle.std.specs.Int.{w32, to_be_bytes}
use Rattle.std.specs.List.{flat_map}
use Rattle.cq_tokform.specs.Spelling.{condition}
use Rattle.cq_tokform.proofs.conditions.put_conditions.Given as goal

abbrev pub invariant-loop-condition : goal.invariant-loop-condition
invariant-loop-condition l = l.out.items ≡ (l.fn.out.items ++ to_be_bytes w32 (length l.conditions)) ++ flat_map condition (take l.condition-index l.conditions)
