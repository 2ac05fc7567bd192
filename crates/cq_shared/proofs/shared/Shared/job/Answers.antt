use Rattle.std.proofs.Common.{sym, subst}
use Rattle.std.specs.Prelude.{IfOk}
use Rattle.cq_history.specs.State.{State, IsAccepted}
use Rattle.cq_hub.specs.Says.{IsJobFor}
use Rattle.cq_shared.specs.declared.deed.Deed.TheVariants as deed
use Rattle.cq_shared.specs.SharedPasses.{cells_of}
use Rattle.cq_shared.proofs.Calling.{state_is, called, accepted_seen, job_for}
use Rattle.cq_shared.proofs.shared.Shared.job.Goals as goal

pub job-job-requires : goal.job-job-requires
job-job-requires g c =
    let e = c.enter_board-board.ensures in
    let m = c.enter_board-board.new.pass in
    let b = c.enter_board-board.result in
    let hub = c.args.self.now in
    let is = state_is (cells_of hub).about m.seen b e.board in
    subst (λ (s : State). IsAccepted s c.args.change) (sym is) (accepted_seen hub c.args.pass.now.seen m.seen e.seen c.args.change c.requires.accepted).0

pub returns-clause-job : goal.returns-clause-job
returns-clause-job g c =
    let e = c.enter_board-board.ensures in
    let m = c.enter_board-board.new.pass in
    let b = c.enter_board-board.result in
    let hub = c.args.self.now in
    let is = state_is (cells_of hub).about m.seen b e.board in
    let there = subst (λ (s : State). IsAccepted s c.args.change) (sym is) (accepted_seen hub c.args.pass.now.seen m.seen e.seen c.args.change c.requires.accepted).0 in
    called c.args.self.now c.args.pass.now m c.leave_after.new.pass c.requires.of e.seen e.own e.same c.leave_after.ensures.of c.leave_after.ensures.free c.leave_after.ensures.same deed.Nothing _ c.leave_after.ensures.seen
    (subst (λ (s : State). IfOk c.job-job.result (IsJobFor s c.args.change)) is (job_for b.state c.args.change c.job-job.result there c.job-job.ensures.none c.job-job.ensures.job c.job-job.ensures.text))
