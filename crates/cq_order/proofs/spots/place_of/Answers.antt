use Rattle.std.proofs.Common.{◌-◌, ◌<◌, ℕ, length, arith, rules}
use Rattle.cq_order.proofs.Climbing.{risen_first}
use Rattle.cq_order.proofs.Finding.{near_found, near_absent}
use Rattle.cq_order.proofs.spots.place_of.Goals as goal

pub reach-from-requires-clause-spread : goal.reach-from-requires-clause-spread
reach-from-requires-clause-spread c =
    let numbers = c.args.numbers.now in
    let some : 0 < length numbers = search rules in
    risen_first (λ (n : ℕ). n) numbers 0 c.requires (length numbers - 1) (omega (arith, some))

pub returns-in-Ok : goal.returns-in-Ok
returns-in-Ok c =
    let reach = c.reach-from in
    near_found c.args.numbers.now c.args.number c.requires reach.result.0 reach.result.1 0 reach.ensures.bound.0 reach.ensures.bound.1 reach.ensures.all c.in-Ok.i c.in-Ok.ensures.position

pub returns-in-Err : goal.returns-in-Err
returns-in-Err c =
    let reach = c.reach-from in
    near_absent c.args.numbers.now c.args.number c.requires reach.result.0 reach.result.1 0 reach.ensures.bound.0 reach.ensures.bound.1 reach.ensures.all c.in-Err.field-0 c.in-Err.ensures.position
