use Rattle.std.proofs.Common.{◌≡◌, refl, sym, subst, inl, inr, arith}
use Rattle.cq_history.specs.Core.{Adds}
use Rattle.cq_history.specs.declared.event.Event.TheVariants as event
use Rattle.cq_core.specs.declared.step.Outcome.TheVariants as outcome
use Rattle.cq_core.specs.Cores.{CoreState}
use Rattle.cq_core.specs.Steps.{IsStepped, Done-if, MayPublish}
use Rattle.std.proofs.lemmas.Bool.{iff_false}
use Rattle.std.proofs.Common.{◌≤◌, List, true, false, rules}
use Rattle.std.specs.Prelude.{All}
use Rattle.cq_shard.specs.Shard.{Contents, HasWindow}
use Rattle.cq_core.proofs.Stepping.{core, keeps_on, steps_on, all_applied, applied_all}
use Rattle.cq_core.proofs.machine.Core.publish.Goals as goal
use Rattle.cq_core.proofs.machine.Core.publish.Goals.{then-version-published-via-then-version-published, then-version-published-via-else-version-published+then-version-ready, then-version-published-via-else-version-published+else-version-ready+then-not-have_applied}

pub returns-then-version-published-clause-outcome : goal.returns-then-version-published-clause-outcome
returns-then-version-published-clause-outcome g c =
    subst (λ (x : CoreState). Done-if (MayPublish x c.args.version) outcome.Ok outcome.No outcome.No) c.self.view_is
    (inr (
      elim c.then-version-published.branch [
        | then-version-published-via-then-version-published w ↦ λ may. (let e = c.published.ensures in omega (arith, may.0, e, w.if-version-published.true))
        | then-version-published-via-else-version-published+then-version-ready w ↦ λ may. omega (arith, may.1, w.if-version-ready.true, w.ready.ensures)
        | then-version-published-via-else-version-published+else-version-ready+then-not-have_applied w ↦ λ may.
            let no : w.have_applied.result ≡ false = search rules in
            iff_false w.have_applied.ensures no (subst (λ (xs : List Contents). All (λ (s : Contents). c.args.version ≤ s.applied) xs) (sym w.deref.ensures.value) (applied_all c.args.version c.self.inside.shards.items may.2))
      ],
      refl,
    ))

pub invariant_of-self-2 : goal.invariant_of-self-2
invariant_of-self-2 g c =
    let reached : All (λ (s : Contents). c.args.version ≤ s.applied) c.self.inside.shards.items = subst (λ (xs : List Contents). All (λ (s : Contents). c.args.version ≤ s.applied) xs) c.deref.ensures.value (let yes : c.have_applied.result ≡ true = search rules in c.have_applied.ensures.0 yes) in
    keeps_on (HasWindow g.W.Indexed.keys_in g.W.Indexed.IsWorkOf) c.it_stands_on.ensures g.W.Indexed.IsWorkOf c.self.inside.board c.publish.new.self c.self.inside.shards.items c.self.inside.views.items c.self.invariant (event.Publish c.args.version) c.in_ok-publish.ensures.adds (λ k is. subst (λ xs. All (λ a. c.args.version ≤ a) xs) is.applied (all_applied c.args.version c.self.inside.shards.items reached)) refl

pub returns-clause-outcome : goal.returns-clause-outcome
returns-clause-outcome g c =
    let reached : All (λ (s : Contents). c.args.version ≤ s.applied) c.self.inside.shards.items = subst (λ (xs : List Contents). All (λ (s : Contents). c.args.version ≤ s.applied) xs) c.deref.ensures.value (let yes : c.have_applied.result ≡ true = search rules in c.have_applied.ensures.0 yes) in
    subst (λ (x : CoreState). Done-if (MayPublish x c.args.version) outcome.Ok outcome.No outcome.Ok) c.self.view_is
    (inl (((let e = c.published.ensures in omega (arith, e, c.if-version-published.false)), (let e = c.ready.ensures in omega (arith, e, c.if-version-ready.false)), all_applied c.args.version c.self.inside.shards.items reached), refl))

pub returns-clause-steps : goal.returns-clause-steps
returns-clause-steps g c =
    let reached : All (λ (s : Contents). c.args.version ≤ s.applied) c.self.inside.shards.items = subst (λ (xs : List Contents). All (λ (s : Contents). c.args.version ≤ s.applied) xs) c.deref.ensures.value (let yes : c.have_applied.result ≡ true = search rules in c.have_applied.ensures.0 yes) in
    subst (λ (x : CoreState). IsStepped (HasWindow g.W.Indexed.keys_in g.W.Indexed.IsWorkOf x.board.settings) (Adds (event.Publish c.args.version)) x (core c.publish.new.self c.self.inside.shards.items) (outcome.Ok)) c.self.view_is (steps_on (HasWindow g.W.Indexed.keys_in g.W.Indexed.IsWorkOf) c.it_stands_on.ensures g.W.Indexed.IsWorkOf c.self.inside.board c.publish.new.self c.self.inside.shards.items c.self.inside.views.items c.self.invariant (event.Publish c.args.version) c.in_ok-publish.ensures.adds (λ k is. subst (λ xs. All (λ a. c.args.version ≤ a) xs) is.applied (all_applied c.args.version c.self.inside.shards.items reached)) outcome.Ok tt)
