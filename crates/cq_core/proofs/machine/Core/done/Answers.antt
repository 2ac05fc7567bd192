use Rattle.std.proofs.Common.{refl, subst}
use Rattle.cq_history.specs.Core.{Adds}
use Rattle.cq_history.specs.declared.event.Event.TheVariants as event
use Rattle.cq_core.specs.declared.step.Outcome.TheVariants as outcome
use Rattle.cq_core.specs.Cores.{CoreState}
use Rattle.cq_core.specs.Steps.{IsStepped}
use Rattle.cq_core.proofs.Stepping.{core, keeps_on, keeps_same, steps_on, stays}
use Rattle.cq_shard.specs.Shard.{HasWindow}
use Rattle.cq_core.proofs.machine.Core.done.Goals as goal
use Rattle.cq_core.proofs.machine.Core.done.Goals.{in-Done, in-Already}

pub invariant_of-self : goal.invariant_of-self
invariant_of-self g c =
    elim c.match-done.branch [
      | in-Done w ↦ keeps_on (HasWindow g.W.Indexed.keys_in g.W.Indexed.IsWorkOf) c.it_stands_on.ensures g.W.Indexed.IsWorkOf c.self.inside.board c.done.new.self c.self.inside.shards.items c.self.inside.views.items c.self.invariant (event.Done c.args.by c.args.change) (c.done.ensures.adds w.in-Done.is) (λ k is. tt) refl
      | in-Already w ↦ keeps_same (HasWindow g.W.Indexed.keys_in g.W.Indexed.IsWorkOf) g.W.Indexed.IsWorkOf c.self.inside.board c.done.new.self c.self.inside.shards.items c.self.inside.views.items (c.done.ensures.unchanged w.in-Already.is) c.self.invariant
    ]

pub returns-clause-steps : goal.returns-clause-steps
returns-clause-steps g c =
    elim c.match-done.branch [
      | in-Done w ↦ rw w.result-is
          (subst (λ (x : CoreState). IsStepped (HasWindow g.W.Indexed.keys_in g.W.Indexed.IsWorkOf x.board.settings) (Adds (event.Done c.args.by c.args.change)) x (core c.done.new.self c.self.inside.shards.items) (outcome.Ok)) c.self.view_is (steps_on (HasWindow g.W.Indexed.keys_in g.W.Indexed.IsWorkOf) c.it_stands_on.ensures g.W.Indexed.IsWorkOf c.self.inside.board c.done.new.self c.self.inside.shards.items c.self.inside.views.items c.self.invariant (event.Done c.args.by c.args.change) (c.done.ensures.adds w.in-Done.is) (λ k is. tt) outcome.Ok tt))
      | in-Already w ↦ rw w.result-is
          (subst (λ (x : CoreState). IsStepped (HasWindow g.W.Indexed.keys_in g.W.Indexed.IsWorkOf x.board.settings) (Adds (event.Done c.args.by c.args.change)) x (core c.done.new.self c.self.inside.shards.items) (outcome.No)) c.self.view_is (stays (HasWindow g.W.Indexed.keys_in g.W.Indexed.IsWorkOf c.self.inside.board.settings) (Adds (event.Done c.args.by c.args.change)) c.self.inside.board c.done.new.self c.self.inside.shards.items outcome.No (λ h. h) (c.done.ensures.unchanged w.in-Already.is)))
    ]
