use Rattle.std.proofs.Common.{◌≡◌, take}
use Rattle.cq_answer.proofs.functions.all_copied.Given as goal

abbrev pub invariant-loop-function : goal.invariant-loop-function
invariant-loop-function l = l.all.items ≡ take l.function-index l.functions
