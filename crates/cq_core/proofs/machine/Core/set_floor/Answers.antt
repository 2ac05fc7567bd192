use Rattle.std.proofs.Common.{refl, subst}
use Rattle.cq_history.specs.Core.{Adds}
use Rattle.cq_history.specs.declared.event.Event.TheVariants as event
use Rattle.cq_core.specs.declared.step.Outcome.TheVariants as outcome
use Rattle.cq_core.specs.Cores.{CoreState}
use Rattle.cq_core.specs.Steps.{IsStepped}
use Rattle.cq_core.proofs.Stepping.{core, keeps_on, keeps_same, steps_on, stays}
use Rattle.cq_shard.specs.Shard.{HasWindow}
use Rattle.cq_core.proofs.machine.Core.set_floor.Goals as goal
use Rattle.cq_core.proofs.machine.Core.set_floor.Goals.{then-set_floor, else-set_floor}

pub invariant_of-self : goal.invariant_of-self
invariant_of-self g c =
    elim c.if-set_floor.branch [
      | then-set_floor w ↦ keeps_on (HasWindow g.W.Indexed.keys_in g.W.Indexed.IsWorkOf) c.it_stands_on.ensures g.W.Indexed.IsWorkOf c.self.inside.board c.set_floor.new.self c.self.inside.shards.items c.self.inside.views.items c.self.invariant (event.Floor c.args.version) w.if-set_floor.ensures.adds (λ k is. tt) refl
      | else-set_floor w ↦ keeps_same (HasWindow g.W.Indexed.keys_in g.W.Indexed.IsWorkOf) g.W.Indexed.IsWorkOf c.self.inside.board c.set_floor.new.self c.self.inside.shards.items c.self.inside.views.items w.if-set_floor.ensures.unchanged c.self.invariant
    ]

pub returns-clause-steps : goal.returns-clause-steps
returns-clause-steps g c =
    elim c.if-set_floor.branch [
      | then-set_floor w ↦ rw w.result-is
          (subst (λ (x : CoreState). IsStepped (HasWindow g.W.Indexed.keys_in g.W.Indexed.IsWorkOf x.board.settings) (Adds (event.Floor c.args.version)) x (core c.set_floor.new.self c.self.inside.shards.items) (outcome.Ok)) c.self.view_is (steps_on (HasWindow g.W.Indexed.keys_in g.W.Indexed.IsWorkOf) c.it_stands_on.ensures g.W.Indexed.IsWorkOf c.self.inside.board c.set_floor.new.self c.self.inside.shards.items c.self.inside.views.items c.self.invariant (event.Floor c.args.version) w.if-set_floor.ensures.adds (λ k is. tt) outcome.Ok tt))
      | else-set_floor w ↦ rw w.result-is
          (subst (λ (x : CoreState). IsStepped (HasWindow g.W.Indexed.keys_in g.W.Indexed.IsWorkOf x.board.settings) (Adds (event.Floor c.args.version)) x (core c.set_floor.new.self c.self.inside.shards.items) (outcome.No)) c.self.view_is (stays (HasWindow g.W.Indexed.keys_in g.W.Indexed.IsWorkOf c.self.inside.board.settings) (Adds (event.Floor c.args.version)) c.self.inside.board c.set_floor.new.self c.self.inside.shards.items outcome.No (λ h. h) w.if-set_floor.ensures.unchanged))
    ]
