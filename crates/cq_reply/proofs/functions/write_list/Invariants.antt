use Rattle.std.proofs.Common.{take}
use Rattle.cq_reply.specs.Added.{AddsEach}
use Rattle.cq_reply.specs.Written.{function_data}
use Rattle.cq_reply.proofs.functions.write_list.Given as goal

abbrev pub invariant-loop-function : goal.invariant-loop-function
invariant-loop-function l = AddsEach function_data (take l.function-index l.functions) l.initial.out l.out
