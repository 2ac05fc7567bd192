use Rattle.std.proofs.Common.{rules, arith, refl, sym, ap, subst, Ok}
use Rattle.cq_history.specs.State.{State, IsAccepted}
use Rattle.cq_hub.specs.Says.{IsFirstFree, IsNoneFree}
use Rattle.cq_shared.specs.declared.deed.Deed.TheVariants as deed
use Rattle.cq_shared.specs.SharedPasses.{cells_of}
use Rattle.cq_shared.proofs.Calling.{state_is, same_board, called}
use Rattle.cq_shared.proofs.shared.Shared.take.Goals as goal

pub returns-in-Ok-Some-clause-taken : goal.returns-in-Ok-Some-clause-taken
returns-in-Ok-Some-clause-taken g c =
    let e = c.enter_board-board.ensures in
    let m = c.enter_board-board.new.pass in
    let b = c.enter_board-board.result in
    let hub = c.args.self.now in
    let is = state_is (cells_of hub).about m.seen b e.board in
    let job = rw c.in-Ok-Some.field-0-is at c.in-Ok-Some.ensures.job in
    let text = rw c.in-Ok-Some.field-0-is at c.in-Ok-Some.ensures.text in
    let first = rw c.in-Ok-Some.field-0-is at c.in-Ok-Some.ensures.first in
    let there = rw c.in-Ok-Some.field-0-is at c.in-Ok-Some.ensures.unchanged in
    called c.args.self.now c.args.pass.now m c.leave_after.new.pass c.requires.of e.seen e.own e.same c.leave_after.ensures.of c.leave_after.ensures.free c.leave_after.ensures.same (deed.Took c.in-Ok-Some.job.change) _ c.leave_after.ensures.seen
    (subst (λ (s : State). IsFirstFree s c.in-Ok-Some.job) is (first, subst (IsAccepted b.state) (sym first) there, job, text))

pub leave_after-requires-in-Ok-None : goal.leave_after-requires-in-Ok-None
leave_after-requires-in-Ok-None g c =
    let e = c.enter_board-board.ensures in
    let m = c.enter_board-board.new.pass in
    let b = c.enter_board-board.result in
    let unchanged = rw c.in-Ok-None.field-0-is at c.in-Ok-None.ensures.unchanged in
    λ κs out. (search rules, (search rules, (refl, (e.of, ((b, e.hand), ((λ s near. omega arith), same_board (cells_of c.args.self.now).about m.seen b c.take.new.self e.board unchanged))))))

pub returns-in-Ok-None-clause-taken : goal.returns-in-Ok-None-clause-taken
returns-in-Ok-None-clause-taken g c =
    let e = c.enter_board-board.ensures in
    let m = c.enter_board-board.new.pass in
    let b = c.enter_board-board.result in
    let hub = c.args.self.now in
    let is = state_is (cells_of hub).about m.seen b e.board in
    called c.args.self.now c.args.pass.now m c.leave_after-in-Ok-None.new.pass c.requires.of e.seen e.own e.same c.leave_after-in-Ok-None.ensures.of c.leave_after-in-Ok-None.ensures.free c.leave_after-in-Ok-None.ensures.same deed.Nothing _ c.leave_after-in-Ok-None.ensures.seen
    (subst (λ (s : State). IsNoneFree s) is (c.in-Ok-None.ensures.none (ap Ok c.in-Ok-None.field-0-is)))

pub returns-in-Err-clause-refused : goal.returns-in-Err-clause-refused
returns-in-Err-clause-refused g c =
    let e = c.enter_board-board.ensures in
    let m = c.enter_board-board.new.pass in
    let b = c.enter_board-board.result in
    let hub = c.args.self.now in
    let is = state_is (cells_of hub).about m.seen b e.board in
    called c.args.self.now c.args.pass.now m c.leave_after-in-Err.new.pass c.requires.of e.seen e.own e.same c.leave_after-in-Err.ensures.of c.leave_after-in-Err.ensures.free c.leave_after-in-Err.ensures.same deed.Nothing _ c.leave_after-in-Err.ensures.seen
    tt
