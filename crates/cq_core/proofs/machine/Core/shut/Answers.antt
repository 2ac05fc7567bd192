use Rattle.std.proofs.Common.{None, refl, sym, ap, subst}
use Rattle.cq_history.specs.Core.{Adds}
use Rattle.cq_history.specs.declared.event.Event.TheVariants as event
use Rattle.std.proofs.Common.{true≢false}
use Rattle.std.specs.Prelude.{is_some}
use Rattle.cq_core.specs.declared.step.Outcome.TheVariants as outcome
use Rattle.cq_core.specs.Cores.{CoreState}
use Rattle.cq_core.specs.Steps.{IsStepped}
use Rattle.cq_core.proofs.Stepping.{core, keeps_view, steps_on}
use Rattle.cq_shard.specs.Shard.{HasWindow}
use Rattle.cq_core.proofs.machine.Core.shut.Goals as goal

pub invariant_of-self : goal.invariant_of-self
invariant_of-self g c =
    keeps_view (HasWindow g.W.Indexed.keys_in g.W.Indexed.IsWorkOf) c.it_stands_on.ensures g.W.Indexed.IsWorkOf c.self.inside.board c.shut.new.self c.self.inside.shards.items c.self.inside.views.items c.self.invariant (event.Shut c.args.by) c.shut.ensures (λ k is. tt) c.args.by None refl refl (λ v at. absurd (true≢false (sym (ap is_some at))))

pub returns-clause-steps : goal.returns-clause-steps
returns-clause-steps g c =
    subst (λ (x : CoreState). IsStepped (HasWindow g.W.Indexed.keys_in g.W.Indexed.IsWorkOf x.board.settings) (Adds (event.Shut c.args.by)) x (core c.shut.new.self c.self.inside.shards.items) outcome.Ok) c.self.view_is
    (steps_on (HasWindow g.W.Indexed.keys_in g.W.Indexed.IsWorkOf) c.it_stands_on.ensures g.W.Indexed.IsWorkOf c.self.inside.board c.shut.new.self c.self.inside.shards.items c.self.inside.views.items c.self.invariant (event.Shut c.args.by) c.shut.ensures (λ k is. tt) outcome.Ok tt)
