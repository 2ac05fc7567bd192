use Rattle.std.proofs.Common.{arith}
use Rattle.std.proofs.lemmas.List.{take_all}
use Rattle.cq_reply.specs.Written.{function_data}
use Rattle.cq_reply.proofs.Adding.{each_none, each_more, listed}
use Rattle.cq_reply.proofs.functions.write_list.Goals as goal

pub loop-function-init : goal.loop-function-init
loop-function-init c = each_none function_data _

pub loop-function-preserved : goal.loop-function-preserved
loop-function-preserved c = each_more function_data c.args.functions.now c.loop-function.function-index c.function-item.result c.loop-function-test.true c.function-item.is c.loop-function.invariant c.in_ok-write_function.ensures

pub returns : goal.returns
returns c = listed function_data c.args.functions.now _ c.end_array.result (take_all c.loop-function.function-index c.args.functions.now (omega arith)) c.in_ok-begin_array.ensures c.loop-function.invariant c.end_array.ensures
