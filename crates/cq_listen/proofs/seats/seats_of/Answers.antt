use Rattle.std.proofs.Common.{arith}
use Rattle.std.specs.Vec.Iter.{into_iter_items}
use Rattle.cq_listen.proofs.Seating.{first_idle, one_more_of, rest_idle}
use Rattle.cq_listen.proofs.seats.seats_of.Goals as goal

pub seats-preserved : goal.seats-preserved
seats-preserved g c =
    let i = c.seats.invariant in
    let number = i.number in
    let len = c.in_ok-push.ensures.len in
    let step = c.in-Some.ensures.steps.0 in
    let left = c.in-Some.ensures.steps.1 in
    record {
      idle = rest_idle c.args.floor.now.hub.now (into_iter_items c.seats.own-iterator) (into_iter_items c.next.new.self) c.in-Some.own step i.idle;
      number = omega (arith, len, number, left);
      settings = one_more_of c.args.floor.now.settings.now c.seats.seats.items c.push.new.self.items c.in_ok-new.field-0 c.in_ok-push.ensures.items i.settings c.in_ok-new.ensures;
    }

pub new-requires-clause-idle : goal.new-requires-clause-idle
new-requires-clause-idle g c = first_idle c.args.floor.now.hub.now (into_iter_items c.seats.own-iterator) (into_iter_items c.next.new.self) c.in-Some.own c.in-Some.ensures.steps.0 c.seats.invariant.idle

pub returns-clause-number : goal.returns-clause-number
returns-clause-number g c =
    let number = c.seats.invariant.number in
    let none = c.in-None.ensures.steps.0 in
    omega (arith, number, none)
