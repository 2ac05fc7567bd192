use Rattle.std.proofs.Common.{◌≤◌, refl, sym, subst, arith, rules}
use Rattle.cq_history.specs.State.{ready}
use Rattle.cq_shared.specs.SharedPasses.{settings_of, state_of}
use Rattle.cq_shared.proofs.Calling.{calls_still, calls_join, calls_front, ready_seen, same_itself}
use Rattle.cq_shared.proofs.shared.Shared.advance.Goals as goal

pub returns-then-to-base-clause-published : goal.returns-then-to-base-clause-published
returns-then-to-base-clause-published g c =
    let a = c.works_up_to.new.pass in
    let one = c.works_up_to.ensures.calls in
    calls_still c.args.self.now c.args.pass.now a a _ _ one one.of (same_itself a) refl (c.in_ok-base.ensures.base, c.if-to-base.true)

pub commit-requires : goal.commit-requires
commit-requires g c =
    let hub = c.args.self.now in
    let one = c.works_up_to.ensures.calls in
    record {
      of = one.of;
      base = (let lt = c.if-to-base.false in omega (arith, lt), let e = c.in_ok-base.ensures.base in omega (arith, e));
      done = ready_seen hub (settings_of hub) c.args.pass.now.seen c.works_up_to.new.pass.seen (calls_front hub c.args.pass.now c.works_up_to.new.pass _ one) one.of.of.law.lawful c.args.to c.requires.done;
      works = c.in_ok-base.ensures.works;
    }

pub returns-in_err-commit-clause-published : goal.returns-in_err-commit-clause-published
returns-in_err-commit-clause-published g c =
    calls_still c.args.self.now c.args.pass.now c.works_up_to.new.pass c.commit.new.pass _ _ c.works_up_to.ensures.calls c.commit.ensures.of.0 c.commit.ensures.of.1 c.commit.ensures.seen (search rules)

pub publish-requires : goal.publish-requires
publish-requires g c =
    let hub = c.args.self.now in
    let one = c.works_up_to.ensures.calls in
    record {
      of = c.commit.ensures.of.0;
      done = subst (λ l. c.args.to ≤ ready (state_of hub l)) (sym c.commit.ensures.seen) (ready_seen hub (settings_of hub) c.args.pass.now.seen c.works_up_to.new.pass.seen (calls_front hub c.args.pass.now c.works_up_to.new.pass _ one) one.of.of.law.lawful c.args.to c.requires.done);
      applied = c.in_ok-commit.ensures.applied;
    }

pub returns-clause-published : goal.returns-clause-published
returns-clause-published g c =
    calls_join c.args.self.now c.args.pass.now c.works_up_to.new.pass c.commit.new.pass c.publish.new.pass _ _ c.works_up_to.ensures.calls c.commit.ensures.of.1 c.commit.ensures.seen c.publish.ensures.published
