use Rattle.std.proofs.Common.{rules, sym, subst, ◌++◌}
use Rattle.std.specs.Prelude.{IfSome, option_to_list}
use Rattle.cq_chain.specs.Held.{IsBoard}
use Rattle.cq_chain.specs.Passes.{MayAdd}
use Rattle.cq_shared.specs.SharedPasses.{cells_of}
use Rattle.cq_shared.proofs.Calling.{may_accept}
use Rattle.cq_shared.proofs.shared.Shared.leave_accepted.Goals as goal

pub leave_board-requires : goal.leave_board-requires
leave_board-requires g c =
    let r = c.requires.1.1 in
    let cells = cells_of c.args.self.now in
    let p = c.args.pass.now in
    let may : IfSome g.event (MayAdd cells p) = subst (λ z. IfSome z (MayAdd cells p)) (sym r.0) (may_accept cells p c.args.change.now.value r.1.1.0) in
    let board : IsBoard cells.about (p.seen ++ option_to_list g.event) c.args.board = subst (λ z. IsBoard cells.about (p.seen ++ option_to_list z) c.args.board) (sym r.0) r.1.1.1.1 in
    λ κs out. (search rules, (search rules, (r.1.0, (r.1.1.1.0, (may, board)))))
