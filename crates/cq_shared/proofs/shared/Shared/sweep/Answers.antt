use Rattle.std.proofs.Common.{◌≡◌, ◌<◌, refl, sym, subst, arith, rules}
use Rattle.cq_history.specs.Gone.{AreKeptPuts}
use Rattle.cq_history.specs.State.{accepted}
use Rattle.cq_board.specs.Answers.{greatest_floor}
use Rattle.cq_shared.specs.SharedPasses.{state_of}
use Rattle.cq_shared.proofs.Calling.{calls_still, calls_end, same_itself}
use Rattle.cq_shared.proofs.shared.Shared.sweep.Goals as goal

pub returns-in_err-floor-clause-swept : goal.returns-in_err-floor-clause-swept
returns-in_err-floor-clause-swept g c =
    let hub = c.args.self.now in
    let a = c.raise_floor.new.pass in
    let one = c.raise_floor.ensures.calls in
    calls_still hub c.args.pass.now a a _ _ one one.of (same_itself a) refl (calls_end hub c.args.pass.now a _ one, search rules)

pub returns-then-floor-above-clause-swept : goal.returns-then-floor-above-clause-swept
returns-then-floor-above-clause-swept g c =
    let hub = c.args.self.now in
    let a = c.raise_floor.new.pass in
    let one = c.raise_floor.ensures.calls in
    calls_still hub c.args.pass.now a a _ _ one one.of (same_itself a) refl (calls_end hub c.args.pass.now a _ one, c.in_ok-floor.ensures.floor)

pub sweep_shards-requires : goal.sweep_shards-requires
sweep_shards-requires g c =
    let a = c.raise_floor.new.pass in
    let lt : c.load-above.result < c.in_ok-floor.floor = let no = c.if-floor-above.false in omega (arith, no) in
    record {
      of = (c.raise_floor.ensures.calls).of;
      floor = c.in_ok-floor.ensures.floor;
      keep = subst (AreKeptPuts (accepted a.seen) c.in_ok-floor.floor) (sym c.numbers.ensures) (c.in_ok-floor.ensures.keep lt);
    }

pub returns-clause-swept : goal.returns-clause-swept
returns-clause-swept g c =
    let hub = c.args.self.now in
    let a = c.raise_floor.new.pass in
    let q = c.sweep_shards.new.pass in
    let one = c.raise_floor.ensures.calls in
    let then = c.sweep_shards.ensures in
    calls_still hub c.args.pass.now a q _ _ one then.of.0 then.of.1 then.seen
    (subst (λ l. ((state_of hub l).floor ≡ greatest_floor (state_of hub l)) × (c.in_ok-floor.floor ≡ (state_of hub l).floor)) (sym then.seen) (calls_end hub c.args.pass.now a _ one, c.in_ok-floor.ensures.floor))
