use Rattle.std.proofs.lemmas.Result.{err_from_is_err_and}
use Rattle.cq_tokform.specs.Reading.{condition_at, items_at}
use Rattle.cq_tokform.proofs.Counted.{goes_on, ends, is_done}
use Rattle.cq_tokform.proofs.conditions.conditions_at.Goals as goal

pub returns-in_err-condition : goal.returns-in_err-condition
returns-in_err-condition c =
    let p = err_from_is_err_and c.from_residual.result c.from_residual.ensures.1 in
    rw (p.1, p.2) (ends condition_at (c.loop.conditions.items) c.args.count c.loop.counter c.loop.rest.now c.in_err-condition.field-0.0 (items_at condition_at c.args.count c.args.bytes.now) c.loop-test.true c.in_err-condition.ensures c.loop.invariant)

pub loop-preserved : goal.loop-preserved
loop-preserved c =
    rw c.in_ok-push.ensures.items (goes_on condition_at (c.loop.conditions.items) c.args.count c.loop.counter c.loop.rest.now (c.in_ok-condition.condition) c.in_ok-condition.after.now (items_at condition_at c.args.count c.args.bytes.now) c.loop-test.true c.in_ok-condition.ensures c.loop.invariant)

pub returns : goal.returns
returns c = is_done condition_at (c.loop.conditions.items) c.args.count c.loop.counter c.loop.rest.now (items_at condition_at c.args.count c.args.bytes.now) c.loop-test.false c.loop.invariant
