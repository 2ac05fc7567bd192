use Rattle.std.proofs.Common.{sym, subst, subst₂, ℕ, Option}
use Rattle.std.specs.Prelude.{IsSome}
use Rattle.cq_history.specs.State.{State, view_of}
use Rattle.cq_shared.specs.declared.deed.Deed.TheVariants as deed
use Rattle.cq_shared.specs.SharedPasses.{cells_of}
use Rattle.cq_shared.proofs.Calling.{state_is, called, view_seen}
use Rattle.cq_shared.proofs.shared.Shared.close_view.Goals as goal

pub shut-requires-clause-viewing : goal.shut-requires-clause-viewing
shut-requires-clause-viewing g c =
    let e = c.enter_board-board.ensures in
    let m = c.enter_board-board.new.pass in
    let b = c.enter_board-board.result in
    let hub = c.args.self.now in
    let is = state_is (cells_of hub).about m.seen b e.board in
    subst₂ (λ (s : State) n. IsSome (view_of s n)) (sym is) (sym c.by-by.ensures) (subst (λ (o : Option ℕ). IsSome o) (sym (view_seen hub c.args.pass.now m.seen e.seen e.own)) c.requires.viewing)

pub returns-clause-shut : goal.returns-clause-shut
returns-clause-shut g c =
    let e = c.enter_board-board.ensures in
    let m = c.enter_board-board.new.pass in
    let b = c.enter_board-board.result in
    let hub = c.args.self.now in
    let is = state_is (cells_of hub).about m.seen b e.board in
    called c.args.self.now c.args.pass.now m c.leave_after.new.pass c.requires.of e.seen e.own e.same c.leave_after.ensures.of c.leave_after.ensures.free c.leave_after.ensures.same deed.Shut _ c.leave_after.ensures.seen
    tt
