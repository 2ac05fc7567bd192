use Rattle.std.proofs.Common.{arith, sym, subst₂}
use Rattle.std.proofs.lemmas.Bool.{iff_false}
use Rattle.cq_history.specs.State.{State, IsTakenBy}
use Rattle.cq_shared.specs.declared.deed.Deed.TheVariants as deed
use Rattle.cq_shared.specs.SharedPasses.{cells_of}
use Rattle.cq_shared.proofs.Calling.{state_is, called}
use Rattle.cq_shared.proofs.shared.Shared.back.Goals as goal

pub returns-then-back-clause-back : goal.returns-then-back-clause-back
returns-then-back-clause-back g c =
    let e = c.enter_board-board.ensures in
    let m = c.enter_board-board.new.pass in
    let b = c.enter_board-board.result in
    let hub = c.args.self.now in
    let is = state_is (cells_of hub).about m.seen b e.board in
    called c.args.self.now c.args.pass.now m c.leave_after.new.pass c.requires.of e.seen e.own e.same c.leave_after.ensures.of c.leave_after.ensures.free c.leave_after.ensures.same (deed.Back c.args.change) _ c.leave_after.ensures.seen
    (subst₂ (λ (s : State) n. IsTakenBy s c.args.change n) is c.by-by.ensures (c.back.ensures.taken.0 c.if-back.true).1)

pub returns-clause-not_taken : goal.returns-clause-not_taken
returns-clause-not_taken g c =
    let e = c.enter_board-board.ensures in
    let m = c.enter_board-board.new.pass in
    let b = c.enter_board-board.result in
    let hub = c.args.self.now in
    let is = state_is (cells_of hub).about m.seen b e.board in
    called c.args.self.now c.args.pass.now m c.leave_after-2.new.pass c.requires.of e.seen e.own e.same c.leave_after-2.ensures.of c.leave_after-2.ensures.free c.leave_after-2.ensures.same deed.Nothing _ c.leave_after-2.ensures.seen
    (λ t. iff_false c.back.ensures.taken c.if-back.false ((let a = e.board.callers in let n = c.by-by.ensures in let lt = c.requires.of.of.caller in omega (arith, a, n, lt)), subst₂ (λ (s : State) n. IsTakenBy s c.args.change n) (sym is) (sym c.by-by.ensures) t))
