use Rattle.std.proofs.Common.{◌≡◌, map, take}
use Rattle.cq_func.specs.Functions.{function_of}
use Rattle.cq_func.proofs.function.functions.Given as goal

abbrev pub invariant-loop-function : goal.invariant-loop-function
invariant-loop-function l = l.functions.items ≡ map (function_of l.fn.lang l.tokens l.function-items) (take l.function-index l.function-items)
