use Rattle.std.proofs.Common.{arith}
use Rattle.std.specs.Vec.Iter.{into_iter_items}
use Rattle.cq_listen.proofs.Seating.{first_idle, one_more_of, rest_idle}
use Rattle.cq_listen.proofs.benches.benches_of.Goals as goal

pub benches-preserved : goal.benches-preserved
benches-preserved g c =
    let i = c.benches.invariant in
    let number = i.number in
    let len = c.in_ok-push.ensures.len in
    let step = c.in-Some.ensures.steps.0 in
    let left = c.in-Some.ensures.steps.1 in
    record {
      idle = rest_idle c.args.hub.now (into_iter_items c.benches.own-iterator) (into_iter_items c.next.new.self) c.in-Some.own step i.idle;
      number = omega (arith, len, number, left);
      settings = one_more_of c.args.settings.now c.benches.benches.items c.push.new.self.items c.new.result c.in_ok-push.ensures.items i.settings c.new.ensures;
    }

pub new-requires-clause-idle : goal.new-requires-clause-idle
new-requires-clause-idle g c = first_idle c.args.hub.now (into_iter_items c.benches.own-iterator) (into_iter_items c.next.new.self) c.in-Some.own c.in-Some.ensures.steps.0 c.benches.invariant.idle

pub returns-clause-number : goal.returns-clause-number
returns-clause-number g c =
    let number = c.benches.invariant.number in
    let none = c.in-None.ensures.steps.0 in
    omega (arith, number, none)
