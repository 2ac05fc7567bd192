use Rattle.std.proofs.Common.{◌≤◌, refl, sym, ap, ◌∙◌, subst, arith, rules}
use Rattle.cq_history.specs.declared.event.Event.TheVariants as event
use Rattle.cq_history.specs.State.{State, ready}
use Rattle.cq_history.proofs.States.{state_push}
use Rattle.cq_shared.specs.declared.deed.Deed.TheVariants as deed
use Rattle.cq_shared.specs.SharedPasses.{cells_of, callers_of, settings_of}
use Rattle.cq_shared.proofs.Calling.{state_is, called, called_nobodys, ready_seen}
use Rattle.cq_shared.proofs.shared.Shared.publish.Goals as goal

pub publish-requires : goal.publish-requires
publish-requires g c =
    let e = c.enter_board-board.ensures in
    let m = c.enter_board-board.new.pass in
    let hub = c.args.self.now in
    record {
      above = let p = c.published-published.ensures in let lt = c.if-to-published.false in omega (arith, p, lt);
      done = subst (λ (s : State). c.args.to ≤ ready s) (sym (state_is (cells_of hub).about m.seen c.enter_board-board.result e.board)) (ready_seen hub (settings_of hub) c.args.pass.now.seen m.seen e.seen e.of.law.lawful c.args.to c.requires.done);
    }

pub returns-then-to-published-clause-published : goal.returns-then-to-published-clause-published
returns-then-to-published-clause-published g c =
    let e = c.enter_board-board.ensures in
    let m = c.enter_board-board.new.pass in
    let hub = c.args.self.now in
    called hub c.args.pass.now m c.leave_after.new.pass c.requires.of e.seen e.own e.same c.leave_after.ensures.of c.leave_after.ensures.free c.leave_after.ensures.same deed.Nothing _ c.leave_after.ensures.seen
    (c.published-published.ensures ∙ ap (λ (s : State). s.published) (state_is (cells_of hub).about m.seen c.enter_board-board.result e.board), c.if-to-published.true)

pub returns-in_err-listed-clause-published : goal.returns-in_err-listed-clause-published
returns-in_err-listed-clause-published g c =
    let e = c.enter_board-board.ensures in
    let m = c.enter_board-board.new.pass in
    called c.args.self.now c.args.pass.now m c.leave_after.new.pass c.requires.of e.seen e.own e.same c.leave_after.ensures.of c.leave_after.ensures.free c.leave_after.ensures.same deed.Nothing _ c.leave_after.ensures.seen (search rules)

pub returns-in-Ok-clause-published : goal.returns-in-Ok-clause-published
returns-in-Ok-clause-published g c =
    let e = c.enter_board-board.ensures in
    let m = c.enter_board-board.new.pass in
    let hub = c.args.self.now in
    let leave = c.leave_after-in-Ok in
    called_nobodys hub c.args.pass.now m leave.new.pass c.requires.of e.seen e.own e.same leave.ensures.of leave.ensures.free leave.ensures.same (event.Publish c.args.to) _ refl leave.ensures.seen
    (sym (ap (λ (s : State). s.published) (state_push (callers_of hub) m.seen (event.Publish c.args.to))), omega arith)

pub returns-in-Err-clause-published : goal.returns-in-Err-clause-published
returns-in-Err-clause-published g c =
    let e = c.enter_board-board.ensures in
    let m = c.enter_board-board.new.pass in
    let leave = c.leave_after-in-Err in
    called c.args.self.now c.args.pass.now m leave.new.pass c.requires.of e.seen e.own e.same leave.ensures.of leave.ensures.free leave.ensures.same deed.Nothing _ leave.ensures.seen tt
