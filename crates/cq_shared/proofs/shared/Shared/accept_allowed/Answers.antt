use Rattle.std.proofs.Common.{ap, ◌∙◌, subst₂, ◌≡◌, ◌⊎◌, ◌∷◌, ◌++◌, [], None, Some}
use Rattle.cq_history.specs.declared.event.Event.TheVariants as event
use Rattle.cq_board.specs.Answers.{refusal_of}
use Rattle.cq_board.specs.declared.answers.Refused.TheVariants as refused
use Rattle.cq_cells.specs.Passes.{by_of}
use Rattle.cq_shared.specs.declared.deed.Deed.TheVariants as deed
use Rattle.cq_shared.specs.SharedPasses.{cells_of}
use Rattle.cq_shared.proofs.Calling.{state_is, adds_board, called, called_accepted, number_is}
use Rattle.cq_shared.proofs.shared.Shared.accept_allowed.Goals as goal

pub returns-in-Ok-clause-accepted : goal.returns-in-Ok-clause-accepted
returns-in-Ok-clause-accepted g c =
    let e = c.enter_board-board.ensures in
    let m = c.enter_board-board.new.pass in
    let b = c.enter_board-board.result in
    let hub = c.args.self.now in
    let is = state_is (cells_of hub).about m.seen b e.board in
    called_accepted hub c.args.pass.now m c.leave_accepted.new.pass c.requires.of e.seen e.own e.same c.leave_accepted.ensures.of c.leave_accepted.ensures.free c.leave_accepted.ensures.same c.args.change _
    (c.leave_accepted.ensures.seen ∙ ap (λ ch. m.seen ++ event.Accept (by_of m) ch ∷ []) c.of-told.ensures) (
      subst₂ (λ s t. refusal_of s t c.args.change ≡ None) e.board.settings is c.in-Ok.ensures.cause,
      c.in-Ok.ensures.number ∙ number_is (cells_of hub).about m.seen c.accept.new.self c.by-by.result c.args.change (adds_board (cells_of hub).about m.seen b c.accept.new.self (event.Accept c.by-by.result c.args.change) e.board c.in-Ok.ensures.adds),
    )

pub returns-clause-refused : goal.returns-clause-refused
returns-clause-refused g c =
    let e = c.enter_board-board.ensures in
    let m = c.enter_board-board.new.pass in
    let b = c.enter_board-board.result in
    let hub = c.args.self.now in
    let is = state_is (cells_of hub).about m.seen b e.board in
    called c.args.self.now c.args.pass.now m c.leave_after.new.pass c.requires.of e.seen e.own e.same c.leave_after.ensures.of c.leave_after.ensures.free c.leave_after.ensures.same deed.Nothing _ c.leave_after.ensures.seen
    (subst₂ (λ s t. (c.in-Err.cause ≡ refused.Memory) ⊎ (refusal_of s t c.args.change ≡ Some c.in-Err.cause)) e.board.settings is c.in-Err.ensures.cause)
