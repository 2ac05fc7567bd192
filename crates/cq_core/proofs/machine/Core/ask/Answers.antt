use Rattle.std.proofs.Common.{refl, subst}
use Rattle.cq_history.specs.Core.{Adds}
use Rattle.cq_history.specs.declared.event.Event.TheVariants as event
use Rattle.cq_core.specs.declared.step.Outcome.TheVariants as outcome
use Rattle.cq_core.specs.Cores.{CoreState}
use Rattle.cq_core.specs.Steps.{IsStepped}
use Rattle.cq_core.proofs.Stepping.{core, keeps_on, steps_on}
use Rattle.cq_shard.specs.Shard.{HasWindow}
use Rattle.cq_core.proofs.machine.Core.ask.Goals as goal

pub invariant_of-self : goal.invariant_of-self
invariant_of-self g c = keeps_on (HasWindow g.W.Indexed.keys_in g.W.Indexed.IsWorkOf) c.it_stands_on.ensures g.W.Indexed.IsWorkOf c.self.inside.board c.ask-asked.new.self c.self.inside.shards.items c.self.inside.views.items c.self.invariant (event.Ask c.args.by) c.ask-asked.ensures.adds (λ k is. tt) refl

pub returns-clause-steps : goal.returns-clause-steps
returns-clause-steps g c =
    subst (λ (x : CoreState). IsStepped (HasWindow g.W.Indexed.keys_in g.W.Indexed.IsWorkOf x.board.settings) (Adds (event.Ask c.args.by)) x (core c.ask-asked.new.self c.self.inside.shards.items) (outcome.Value c.ask-asked.result.accepted)) c.self.view_is (steps_on (HasWindow g.W.Indexed.keys_in g.W.Indexed.IsWorkOf) c.it_stands_on.ensures g.W.Indexed.IsWorkOf c.self.inside.board c.ask-asked.new.self c.self.inside.shards.items c.self.inside.views.items c.self.invariant (event.Ask c.args.by) c.ask-asked.ensures.adds (λ k is. tt) (outcome.Value c.ask-asked.result.accepted) tt)
