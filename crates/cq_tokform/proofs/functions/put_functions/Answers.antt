use Rattle.std.proofs.Common.{◌++◌, length}
use Rattle.std.specs.Int.{w32, to_be_bytes}
use Rattle.cq_tokform.specs.Spelling.{function}
use Rattle.cq_tokform.proofs.Appended.{written_on}
use Rattle.cq_tokform.proofs.functions.put_functions.Goals as goal

pub loop-function-preserved : goal.loop-function-preserved
loop-function-preserved c = written_on function c.args.functions.now c.loop-function.function-index c.function-item.result _ (c.args.out.now.items ++ to_be_bytes w32 (length c.args.functions.now)) c.loop-function.out.items c.put_function.new.out.items c.loop-function-test.true c.function-item.is c.loop-function.invariant c.in_ok-put_function.ensures.written
