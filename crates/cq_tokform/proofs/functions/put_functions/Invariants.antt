use Rattle.std.proofs.Common.{◌≡◌, ◌++◌, length, take}
use Rattle.std.specs.Int.{w32, to_be_bytes}
use Rattle.std.specs.List.{flat_map}
use Rattle.cq_tokform.specs.Spelling.{function}
use Rattle.cq_tokform.proofs.functions.put_functions.Given as goal

abbrev pub invariant-loop-function : goal.invariant-loop-function
invariant-loop-function l = l.out.items ≡ (l.fn.out.items ++ to_be_bytes w32 (length l.functions)) ++ flat_map function (take l.function-index l.functions)
