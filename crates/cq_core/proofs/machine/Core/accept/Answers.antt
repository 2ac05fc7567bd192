use Rattle.std.proofs.Common.{refl, subst}
use Rattle.cq_history.specs.Core.{Adds}
use Rattle.cq_history.specs.declared.event.Event.TheVariants as event
use Rattle.cq_core.specs.declared.step.Outcome.TheVariants as outcome
use Rattle.cq_core.specs.Cores.{CoreState}
use Rattle.cq_core.specs.Steps.{IsStepped}
use Rattle.cq_core.proofs.Stepping.{core, keeps_on, keeps_same, steps_on, stays}
use Rattle.cq_shard.specs.Shard.{HasWindow}
use Rattle.cq_core.proofs.machine.Core.accept.Goals as goal
use Rattle.cq_core.proofs.machine.Core.accept.Goals.{in-Ok, in-Err-Memory, in-Err}

pub invariant_of-self : goal.invariant_of-self
invariant_of-self g c =
    elim c.match-accept.branch [
      | in-Ok w ↦ keeps_on (HasWindow g.W.Indexed.keys_in g.W.Indexed.IsWorkOf) c.it_stands_on.ensures g.W.Indexed.IsWorkOf c.self.inside.board c.accept.new.self c.self.inside.shards.items c.self.inside.views.items c.self.invariant (event.Accept c.args.by c.args.change) w.in-Ok.ensures.adds (λ k is. tt) refl
      | in-Err-Memory w ↦ keeps_same (HasWindow g.W.Indexed.keys_in g.W.Indexed.IsWorkOf) g.W.Indexed.IsWorkOf c.self.inside.board c.accept.new.self c.self.inside.shards.items c.self.inside.views.items w.in-Err-Memory.ensures.err c.self.invariant
      | in-Err w ↦ keeps_same (HasWindow g.W.Indexed.keys_in g.W.Indexed.IsWorkOf) g.W.Indexed.IsWorkOf c.self.inside.board c.accept.new.self c.self.inside.shards.items c.self.inside.views.items w.in-Err.ensures.err c.self.invariant
    ]

pub returns-clause-steps : goal.returns-clause-steps
returns-clause-steps g c =
    elim c.match-accept.branch [
      | in-Ok w ↦ rw w.result-is
          (subst (λ (x : CoreState). IsStepped (HasWindow g.W.Indexed.keys_in g.W.Indexed.IsWorkOf x.board.settings) (Adds (event.Accept c.args.by c.args.change)) x (core c.accept.new.self c.self.inside.shards.items) (outcome.Value w.in-Ok.number)) c.self.view_is (steps_on (HasWindow g.W.Indexed.keys_in g.W.Indexed.IsWorkOf) c.it_stands_on.ensures g.W.Indexed.IsWorkOf c.self.inside.board c.accept.new.self c.self.inside.shards.items c.self.inside.views.items c.self.invariant (event.Accept c.args.by c.args.change) w.in-Ok.ensures.adds (λ k is. tt) (outcome.Value w.in-Ok.number) tt))
      | in-Err-Memory w ↦ rw w.result-is tt
      | in-Err w ↦ rw w.result-is
          (subst (λ (x : CoreState). IsStepped (HasWindow g.W.Indexed.keys_in g.W.Indexed.IsWorkOf x.board.settings) (Adds (event.Accept c.args.by c.args.change)) x (core c.accept.new.self c.self.inside.shards.items) (outcome.Refused w.in-Err.cause)) c.self.view_is (stays (HasWindow g.W.Indexed.keys_in g.W.Indexed.IsWorkOf c.self.inside.board.settings) (Adds (event.Accept c.args.by c.args.change)) c.self.inside.board c.accept.new.self c.self.inside.shards.items (outcome.Refused w.in-Err.cause) (λ h. h) w.in-Err.ensures.err))
    ]
