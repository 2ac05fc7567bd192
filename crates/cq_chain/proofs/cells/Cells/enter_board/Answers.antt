use Rattle.std.proofs.Common.{sym, subst}
use Rattle.cq_cells.specs.Callers.{Differ}
use Rattle.cq_cells.specs.Passes as passes
use Rattle.cq_chain.specs.Held.{IsLawful, IsBoard}
use Rattle.cq_chain.specs.Passes.{BoardCells}
use Rattle.cq_chain.proofs.Passing.{is_pass, is_own, none_from, made_same, few_board}
use Rattle.cq_chain.proofs.cells.Cells.enter_board.Goals as goal

pub enter_board-requires-clause-of : goal.enter_board-requires-clause-of
enter_board-requires-clause-of g c = subst (λ (z : BoardCells). passes.IsPassOf z c.args.pass.now) (sym c.self.view_is) c.requires.of.of

pub returns-clause-of : goal.returns-clause-of
returns-clause-of g c = let e = c.enter_board.ensures in let q = c.enter_board.new.pass in
    is_pass c.self.inside.cells c.args.self.now q c.self.view_is c.self.invariant.1 e.of.0 (subst (λ (z : BoardCells). IsLawful z.about q.seen) c.self.view_is e.lawful)
    (subst Differ (sym e.of.1.callers) c.requires.of.apart) (few_board q c.enter_board.result e.hand)
    (made_same c.args.pass.now q e.of.1 c.requires.of.made) (λ pos. none_from q.next q.seen (e.unmade pos))

pub returns-clause-own : goal.returns-clause-own
returns-clause-own g c = is_own c.args.pass.now c.enter_board.new.pass.seen c.enter_board.ensures.own

pub returns-clause-board : goal.returns-clause-board
returns-clause-board g c = subst (λ (z : BoardCells). IsBoard z.about c.enter_board.new.pass.seen c.enter_board.result) c.self.view_is c.enter_board.ensures.board
