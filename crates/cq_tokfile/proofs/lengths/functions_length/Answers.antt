use Rattle.std.proofs.Common.{◌+◌, length, ap, arith}
use Rattle.std.proofs.lemmas.List.Sums.{sum_by_more}
use Rattle.cq_func.specs.declared.function.Function.{Function}
use Rattle.cq_tokfile.proofs.lengths.functions_length.Goals as goal

pub loop-function-preserved : goal.loop-function-preserved
loop-function-preserved c =
    let functions = c.args.functions.now in
    let i = c.loop-function.function-index in
    let item = c.function-item.result in
    let more = sum_by_more (λ (f : Function). 16 + length f.name) functions i item c.loop-function-test.true in
    let name = ap (λ (f : Function). length f.name) c.function-item.is in
    let bytes = ap length c.as_bytes.ensures in
    let inner = c.more.ensures in
    let outer = c.more-count.ensures in
    let so_far = c.loop-function.invariant in
    omega (arith, inner, outer, so_far, more, name, bytes)
