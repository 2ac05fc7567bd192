use Rattle.std.proofs.Common.{sym, subst}
use Rattle.cq_cells.specs.Callers.{Differ}
use Rattle.cq_cells.specs.Passes as passes
use Rattle.cq_chain.specs.Held.{IsLawful}
use Rattle.cq_chain.specs.Passes.{BoardCells}
use Rattle.cq_chain.proofs.Passing.{is_pass, is_own, none_from, made_same, few_free, longer_lawful}
use Rattle.cq_chain.proofs.cells.Cells.level.Goals as goal

pub level-requires-clause-of : goal.level-requires-clause-of
level-requires-clause-of g c =
    (subst (λ (z : BoardCells). passes.IsPassOf z c.args.pass.now) (sym c.self.view_is) c.requires.of.0.of, subst (λ (z : BoardCells). passes.IsPassOf z c.args.other.now) (sym c.self.view_is) c.requires.of.1.of)

pub returns-clause-of : goal.returns-clause-of
returns-clause-of g c =
    let e = c.level.ensures in
    let q = c.level.new.pass in
    is_pass c.self.inside.cells c.args.self.now q c.self.view_is c.self.invariant.1 e.of.0
    (subst (IsLawful c.args.self.now.about) (sym e.seen) (longer_lawful c.args.self.now.about c.args.pass.now.seen c.args.other.now.seen c.requires.of.0.law c.requires.of.1.law)) (subst Differ (sym e.of.1.callers) c.requires.of.0.apart)
    (few_free q e.free) (made_same c.args.pass.now q e.of.1 c.requires.of.0.made) (λ pos. none_from q.next q.seen (e.unmade pos))

pub returns-clause-own : goal.returns-clause-own
returns-clause-own g c = is_own c.args.pass.now c.level.new.pass.seen c.level.ensures.own
