use Rattle.std.proofs.Common.{rules, sym, subst, ◌++◌, ◌∙◌, length}
use Rattle.std.specs.Prelude.{option_to_list}
use contract.BorrowLft.{⊑_meet, ⊑_static}
use Rattle.cq_cells.specs.Callers.{Differ}
use Rattle.cq_cells.specs.Passes as passes
use Rattle.cq_chain.specs.Held.{IsLawful, IsBoard}
use Rattle.cq_chain.specs.Passes.{BoardCells, IsPassOf}
use Rattle.cq_chain.proofs.Passing.{is_pass, made_same, unmade_more, few_free, accepted_more, board_lawful, may_add, half}
use Rattle.cq_chain.proofs.cells.Cells.leave_board.Goals as goal

pub leave_board-requires : goal.leave_board-requires
leave_board-requires g c =
    let r = c.requires.1.1 in
    let here : BoardCells = c.self.inside.cells in
    let cells : BoardCells = c.args.self.now in
    let p = c.args.pass.now in
    let of : IsPassOf cells p = r.0 in
    let right : IsBoard cells.about (p.seen ++ option_to_list g.event) c.args.board = r.1.1.1 in
    let right_here : IsBoard here.about (p.seen ++ option_to_list g.event) c.args.board = subst (λ (z : BoardCells). IsBoard z.about (p.seen ++ option_to_list g.event) c.args.board) (sym c.self.view_is) right in
    λ κs out. (
      search (⊑_meet, ⊑_static, out.0) fits 50000 depth 40,
      (
        search rules,
        (
          search rules,
          (
            search rules,
            (
              search rules,
              (
                search rules,
                (
                  subst (λ (z : BoardCells). passes.IsPassOf z p) (sym c.self.view_is) of.of,
                  (
                    r.1.0,
                    (
                      may_add here cells p g.event c.args.board c.self.view_is c.self.invariant.0 of right r.1.1.0,
                      (half (length (p.seen ++ option_to_list g.event)) c.events.result (c.events.ensures ∙ right.stands.events), right_here),
                    ),
                  ),
                ),
              ),
            ),
          ),
        ),
      ),
    )

pub returns-clause-of : goal.returns-clause-of
returns-clause-of g c =
    let r = c.requires.1.1 in
    let cells : BoardCells = c.args.self.now in
    let p = c.args.pass.now in
    let q = c.leave_board.new.pass in
    let e = c.leave_board.ensures in
    let of : IsPassOf cells p = r.0 in
    let right : IsBoard cells.about (p.seen ++ option_to_list g.event) c.args.board = r.1.1.1 in
    is_pass c.self.inside.cells cells q c.self.view_is c.self.invariant.1 e.of.0 (subst (IsLawful cells.about) (sym e.seen) (board_lawful cells.about (p.seen ++ option_to_list g.event) c.args.board right (accepted_more cells p g.event of.law r.1.1.0)))
    (subst Differ (sym e.of.1.callers) of.apart) (few_free q e.free)
    (made_same p q e.of.1 of.made) (unmade_more p q cells g.event r.1.1.0 e.of.1 e.seen of.made of.unmade)
