use Rattle.std.proofs.Common.{◌≡◌, Some, refl, subst}
use Rattle.cq_history.specs.Core.{Adds}
use Rattle.cq_history.specs.declared.event.Event.TheVariants as event
use Rattle.cq_core.specs.declared.step.Outcome.TheVariants as outcome
use Rattle.cq_core.specs.Cores.{CoreState}
use Rattle.cq_core.specs.Steps.{IsStepped}
use Rattle.cq_core.specs.Views.{IsView}
use Rattle.cq_core.proofs.Stepping.{core, keeps_view, steps_on}
use Rattle.cq_shard.specs.Shard.{HasWindow}
use Rattle.cq_core.proofs.machine.Core.open.Goals as goal

pub invariant_of-self-2 : goal.invariant_of-self-2
invariant_of-self-2 g c =
    keeps_view (HasWindow g.W.Indexed.keys_in g.W.Indexed.IsWorkOf) c.it_stands_on.ensures g.W.Indexed.IsWorkOf c.self.inside.board c.open_listed.new.board c.self.inside.shards.items c.self.inside.views.items c.self.invariant (event.Open c.args.by c.in_ok-view.view.version) c.in_ok-view.ensures.adds (λ k is. tt) c.args.by (Some c.in_ok-view.view) refl refl
    (λ v at. subst (IsView (g.W.Indexed.IsWorkOf c.self.inside.board.settings) c.self.inside.board.state) (same_view at) c.in_ok-view.ensures.listing)
  where
    same_view : {X : Type 0} {a b : X} → Some a ≡ Some b → a ≡ b
    same_view e = cc e

pub returns-clause-steps : goal.returns-clause-steps
returns-clause-steps g c =
    subst (λ (x : CoreState). IsStepped (HasWindow g.W.Indexed.keys_in g.W.Indexed.IsWorkOf x.board.settings) (Adds (event.Open c.args.by x.board.state.published)) x (core c.open_listed.new.board c.self.inside.shards.items) (outcome.Value c.in_ok-view.view.version)) c.self.view_is
    (subst (λ p. IsStepped (HasWindow g.W.Indexed.keys_in g.W.Indexed.IsWorkOf c.self.inside.board.settings) (Adds (event.Open c.args.by p)) (core c.self.inside.board c.self.inside.shards.items) (core c.open_listed.new.board c.self.inside.shards.items) (outcome.Value c.in_ok-view.view.version)) c.in_ok-view.ensures.version
    (steps_on (HasWindow g.W.Indexed.keys_in g.W.Indexed.IsWorkOf) c.it_stands_on.ensures g.W.Indexed.IsWorkOf c.self.inside.board c.open_listed.new.board c.self.inside.shards.items c.self.inside.views.items c.self.invariant (event.Open c.args.by c.in_ok-view.view.version) c.in_ok-view.ensures.adds (λ k is. tt) (outcome.Value c.in_ok-view.view.version) tt))
