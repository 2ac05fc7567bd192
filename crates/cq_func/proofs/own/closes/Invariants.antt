use Rattle.cq_func.proofs.Closes.{AreClosed}
use Rattle.cq_func.proofs.own.closes.Given as goal

abbrev pub invariant-loop-function : goal.invariant-loop-function
invariant-loop-function l = AreClosed l.functions l.function-index l.many l.closes.items
