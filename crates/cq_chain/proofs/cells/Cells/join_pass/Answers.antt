use Rattle.std.proofs.Common.{sym, subst}
use Rattle.cq_cells.specs.Passes as passes
use Rattle.cq_chain.specs.Held.{IsLawful}
use Rattle.cq_chain.specs.Passes.{BoardCells}
use Rattle.cq_chain.proofs.Passing.{is_pass, is_own, none_from, made_joined, few_free, longer_lawful}
use Rattle.cq_chain.proofs.cells.Cells.join_pass.Goals as goal

pub join_pass-requires-clause-of : goal.join_pass-requires-clause-of
join_pass-requires-clause-of g c =
    (subst (λ (z : BoardCells). passes.IsPassOf z c.args.pass.now) (sym c.self.view_is) c.requires.of.0.of, subst (λ (z : BoardCells). passes.IsPassOf z c.args.other) (sym c.self.view_is) c.requires.of.1.of)

pub returns-clause-of : goal.returns-clause-of
returns-clause-of g c =
    let e = c.join_pass.ensures in
    let q = c.join_pass.new.pass in
    is_pass c.self.inside.cells c.args.self.now q c.self.view_is c.self.invariant.1 e.of.0
    (subst (IsLawful c.args.self.now.about) (sym e.seen) (longer_lawful c.args.self.now.about c.args.pass.now.seen c.args.other.seen c.requires.of.0.law c.requires.of.1.law)) e.apart (few_free q e.of.1)
    (made_joined c.args.pass.now q c.args.other.callers c.requires.of.0.of.has_caller e.callers e.room.0 c.requires.of.0.made) (λ pos. none_from q.next q.seen (e.unmade pos))

pub returns-clause-own : goal.returns-clause-own
returns-clause-own g c = let seen = c.join_pass.new.pass.seen in (is_own c.args.pass.now seen c.join_pass.ensures.own.0, is_own c.args.other seen c.join_pass.ensures.own.1)

pub returns-clause-unmade : goal.returns-clause-unmade
returns-clause-unmade g c = λ some_more. none_from c.join_pass.new.pass.next c.join_pass.new.pass.seen (c.join_pass.ensures.unmade some_more)
