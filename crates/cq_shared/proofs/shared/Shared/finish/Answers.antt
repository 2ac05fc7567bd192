use Rattle.std.proofs.Common.{arith, sym, ap, ◌∙◌, subst, subst₂, ◌≡◌}
use Rattle.std.specs.Arc.{arc_value}
use Rattle.cq_history.specs.Changes.{IsWorkFor}
use Rattle.cq_history.specs.State.{State, slot_of, IsAccepted, IsDone, IsUndone}
use Rattle.cq_board.specs.declared.answers.Finished.{Finished}
use Rattle.cq_hub.proofs.Soloing.{not_done}
use Rattle.cq_shared.specs.declared.deed.Deed.TheVariants as deed
use Rattle.cq_shared.specs.SharedPasses.{cells_of}
use Rattle.cq_shared.proofs.Calling.{state_is, called, accepted_seen}
use Rattle.cq_shared.proofs.shared.Shared.finish.Goals as goal

pub done-requires : goal.done-requires
done-requires g c =
    let e = c.enter_board-board.ensures in
    let m = c.enter_board-board.new.pass in
    let b = c.enter_board-board.result in
    let hub = c.args.self.now in
    let is = state_is (cells_of hub).about m.seen b e.board in
    let on = accepted_seen hub c.args.pass.now.seen m.seen e.seen c.args.change c.requires.accepted in
    record {
      caller = (let a = e.board.callers in let n = c.by-by.ensures in let lt = c.requires.of.of.caller in omega (arith, a, n, lt));
      accepted = subst (λ (s : State). IsAccepted s c.args.change) (sym is) on.0;
      work = subst₂ (λ set ch. IsWorkFor (g.W.Indexed.IsWorkOf set) ch (arc_value c.args.work)) (sym e.board.settings) (sym (ap (λ (s : State). (slot_of s c.args.change).change) is ∙ on.1)) c.requires.work;
    }

pub returns-in-Done-clause-done : goal.returns-in-Done-clause-done
returns-in-Done-clause-done g c =
    λ same.
    let e = c.enter_board-board.ensures in
    let m = c.enter_board-board.new.pass in
    let b = c.enter_board-board.result in
    let hub = c.args.self.now in
    let is = state_is (cells_of hub).about m.seen b e.board in
    let there = subst (λ (s : State). IsAccepted s c.args.change) (sym is) (accepted_seen hub c.args.pass.now.seen m.seen e.seen c.args.change c.requires.accepted).0 in
    called c.args.self.now c.args.pass.now m c.leave_after.new.pass c.requires.of e.seen e.own e.same c.leave_after.ensures.of c.leave_after.ensures.free c.leave_after.ensures.same (deed.Done c.args.change) _ c.leave_after.ensures.seen
    (subst (λ (s : State). IsUndone s c.args.change) is (not_done b.state c.args.change there (λ d. let bad : Finished.Done ≡ Finished.Already = sym c.in-Done.is ∙ c.done.ensures.already.1 d in absurd (cc))))

pub returns-in-Already-clause-already : goal.returns-in-Already-clause-already
returns-in-Already-clause-already g c =
    λ same.
    let e = c.enter_board-board.ensures in
    let m = c.enter_board-board.new.pass in
    let b = c.enter_board-board.result in
    let hub = c.args.self.now in
    let is = state_is (cells_of hub).about m.seen b e.board in
    called c.args.self.now c.args.pass.now m c.leave_after-in-Already.new.pass c.requires.of e.seen e.own e.same c.leave_after-in-Already.ensures.of c.leave_after-in-Already.ensures.free c.leave_after-in-Already.ensures.same deed.Nothing _ c.leave_after-in-Already.ensures.seen
    (subst (λ (s : State). IsDone s c.args.change) is (c.done.ensures.already.0 c.in-Already.is))
