use Rattle.std.proofs.Common.{◌<◌, length, take, sym, subst}
use Rattle.std.specs.Arc.{arc_value}
use Rattle.std.proofs.lemmas.List.Elements.{All-take}
use Rattle.cq_base.specs.Changes.{IsSoundChange}
use Rattle.cq_history.specs.State.{changes_in}
use Rattle.cq_board.proofs.Sounding.{few_conditions}
use Rattle.cq_core.specs.Cores.{CoreState}
use Rattle.cq_core.specs.Views.{IsView}
use Rattle.cq_core.proofs.Stepping.{view_at}
use Rattle.cq_core.proofs.machine.Core.view.Goals as goal

pub returns-in-Some-clause-listing : goal.returns-in-Some-clause-listing
returns-in-Some-clause-listing g c =
    subst (λ (x : CoreState). IsView (g.W.Indexed.IsWorkOf x.board.settings) x.board.state c.in-Some.view) c.self.view_is
    (view_at (g.W.Indexed.IsWorkOf c.self.inside.board.settings) c.self.inside.board.state c.self.inside.views.items c.self.invariant.1 c.args.by c.index.result.now c.in-Some.view (subst (λ (x : CoreState). c.args.by < length x.board.state.views) (sym c.self.view_is) c.requires) c.index.ensures c.in-Some.is).0

pub returns-in-Some-clause-conditions : goal.returns-in-Some-clause-conditions
returns-in-Some-clause-conditions g c =
    let s = c.self.inside.board.state in
    few_conditions (g.W.Indexed.IsWorkOf c.self.inside.board.settings) (take c.in-Some.view.version (changes_in s)) (arc_value c.in-Some.view.listing)
    (All-take IsSoundChange c.in-Some.view.version (changes_in s) c.self.invariant.0.1.past.sound)
    (view_at (g.W.Indexed.IsWorkOf c.self.inside.board.settings) s c.self.inside.views.items c.self.invariant.1 c.args.by c.index.result.now c.in-Some.view (subst (λ (x : CoreState). c.args.by < length x.board.state.views) (sym c.self.view_is) c.requires) c.index.ensures c.in-Some.is).0
