use Rattle.std.proofs.Common.{sym, ◌∙◌, subst₂, ◌≡◌, None}
use Rattle.cq_history.specs.State.{State, view_of}
use Rattle.cq_hub.specs.Views.{IsLatest}
use Rattle.cq_shared.specs.declared.deed.Deed.TheVariants as deed
use Rattle.cq_shared.specs.SharedPasses.{cells_of}
use Rattle.cq_shared.proofs.Calling.{state_is, called, view_seen}
use Rattle.cq_shared.proofs.shared.Shared.open_view.Goals as goal

pub open-requires-clause-closed : goal.open-requires-clause-closed
open-requires-clause-closed g c =
    let e = c.enter_board-board.ensures in
    let m = c.enter_board-board.new.pass in
    let b = c.enter_board-board.result in
    let hub = c.args.self.now in
    let is = state_is (cells_of hub).about m.seen b e.board in
    subst₂ (λ (s : State) n. view_of s n ≡ None) (sym is) (sym c.by-by.ensures) (view_seen hub c.args.pass.now m.seen e.seen e.own ∙ c.requires.closed)

pub returns-in-Ok-clause-opened : goal.returns-in-Ok-clause-opened
returns-in-Ok-clause-opened g c =
    let e = c.enter_board-board.ensures in
    let m = c.enter_board-board.new.pass in
    let b = c.enter_board-board.result in
    let hub = c.args.self.now in
    let is = state_is (cells_of hub).about m.seen b e.board in
    called c.args.self.now c.args.pass.now m c.leave_after.new.pass c.requires.of e.seen e.own e.same c.leave_after.ensures.of c.leave_after.ensures.free c.leave_after.ensures.same (deed.Open c.in-Ok.view.version) _ c.leave_after.ensures.seen
    (subst₂ (λ set (s : State). IsLatest (g.W.Indexed.IsWorkOf set) s c.in-Ok.view) e.board.settings is (c.in-Ok.ensures.version, c.in-Ok.ensures.listing, c.in-Ok.ensures.conditions))

pub returns-in-Err-clause-refused : goal.returns-in-Err-clause-refused
returns-in-Err-clause-refused g c =
    let e = c.enter_board-board.ensures in
    let m = c.enter_board-board.new.pass in
    let b = c.enter_board-board.result in
    let hub = c.args.self.now in
    let is = state_is (cells_of hub).about m.seen b e.board in
    called c.args.self.now c.args.pass.now m c.leave_after-in-Err.new.pass c.requires.of e.seen e.own e.same c.leave_after-in-Err.ensures.of c.leave_after-in-Err.ensures.free c.leave_after-in-Err.ensures.same deed.Nothing _ c.leave_after-in-Err.ensures.seen
    tt
