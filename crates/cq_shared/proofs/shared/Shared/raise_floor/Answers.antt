use Rattle.std.proofs.Common.{◌≡◌, ◌<◌, refl, sym, ap, ◌∙◌, subst, append-nil}
use Rattle.std.proofs.lemmas.Bool.{OnTrue_at, OnFalse_at, iff_false}
use Rattle.cq_history.specs.declared.event.Event.TheVariants as event
use Rattle.cq_history.specs.Gone.{AreKeptPuts}
use Rattle.cq_history.specs.State.{State, accepted}
use Rattle.cq_history.specs.Lawful.{Permits}
use Rattle.cq_board.specs.Answers.{greatest_floor}
use Rattle.cq_board.specs.Stands.{BoardState}
use Rattle.cq_hub.proofs.Raising.{floor_stays, floor_then}
use Rattle.cq_shared.specs.declared.deed.Deed.TheVariants as deed
use Rattle.cq_shared.specs.SharedPasses.{cells_of, callers_of, state_of}
use Rattle.cq_shared.proofs.Calling.{state_is, adds_board, same_board, called, called_nobodys}
use Rattle.cq_shared.proofs.SweptShards.{board_changes}
use Rattle.cq_shared.proofs.shared.Shared.raise_floor.Goals as goal

pub returns-then-set_floor-clause-calls : goal.returns-then-set_floor-clause-calls
returns-then-set_floor-clause-calls g c =
    let hub = c.args.self.now in
    let about = (cells_of hub).about in
    let e = c.enter_board-board.ensures in
    let m = c.enter_board-board.new.pass in
    let b = c.enter_board-board.result in
    let at = c.greatest_floor-floor.ensures ∙ ap greatest_floor (state_is about m.seen b e.board) in
    let then = floor_then (callers_of hub) m.seen c.greatest_floor-floor.result at in
    called_nobodys hub c.args.pass.now m c.leave_after.new.pass c.requires.of e.seen e.own e.same c.leave_after.ensures.of c.leave_after.ensures.free c.leave_after.ensures.same (event.Floor c.greatest_floor-floor.result) _ refl c.leave_after.ensures.seen then.0

pub returns-in_err-keep-clause-calls : goal.returns-in_err-keep-clause-calls
returns-in_err-keep-clause-calls g c =
    let hub = c.args.self.now in
    let about = (cells_of hub).about in
    let e = c.enter_board-board.ensures in
    let m = c.enter_board-board.new.pass in
    let b = c.enter_board-board.result in
    let at = c.greatest_floor-floor.ensures ∙ ap greatest_floor (state_is about m.seen b e.board) in
    let then = floor_then (callers_of hub) m.seen c.greatest_floor-floor.result at in
    called_nobodys hub c.args.pass.now m c.leave_after.new.pass c.requires.of e.seen e.own e.same c.leave_after.ensures.of c.leave_after.ensures.free c.leave_after.ensures.same (event.Floor c.greatest_floor-floor.result) _ refl c.leave_after.ensures.seen then.0

pub returns-then-set_floor-clause-floor : goal.returns-then-set_floor-clause-floor
returns-then-set_floor-clause-floor g c =
    let hub = c.args.self.now in
    let about = (cells_of hub).about in
    let e = c.enter_board-board.ensures in
    let m = c.enter_board-board.new.pass in
    let b = c.enter_board-board.result in
    let at = c.greatest_floor-floor.ensures ∙ ap greatest_floor (state_is about m.seen b e.board) in
    let then = floor_then (callers_of hub) m.seen c.greatest_floor-floor.result at in
    then.1 ∙ ap (λ l. (state_of hub l).floor) (sym c.leave_after.ensures.seen)

pub returns-then-set_floor-clause-keep : goal.returns-then-set_floor-clause-keep
returns-then-set_floor-clause-keep g c =
    let hub = c.args.self.now in
    let about = (cells_of hub).about in
    let e = c.enter_board-board.ensures in
    let m = c.enter_board-board.new.pass in
    let b = c.enter_board-board.result in
    let at_first = c.greatest_floor-floor.ensures ∙ ap greatest_floor (state_is about m.seen b e.board) in
    let then = floor_then (callers_of hub) m.seen c.greatest_floor-floor.result at_first in
    λ lt.
    let now = adds_board about m.seen b c.set_floor.new.self (event.Floor c.greatest_floor-floor.result) e.board (OnTrue_at c.if-set_floor.true c.set_floor.ensures.adds) in
    let at = ap (λ (s : State). s.floor) (state_is about _ c.set_floor.new.self now) ∙ sym then.1 in
    subst (λ f. AreKeptPuts (accepted c.leave_after.new.pass.seen) f c.in_ok-keep.field-0) at
    (subst (λ cs. AreKeptPuts cs c.set_floor.new.self.state.floor c.in_ok-keep.field-0) (board_changes about _ c.set_floor.new.self now ∙ ap accepted (sym c.leave_after.ensures.seen)) (c.in_ok-keep.ensures (subst (λ f. c.args.above < f) (sym at) lt)))

pub returns-clause-calls : goal.returns-clause-calls
returns-clause-calls g c =
    let hub = c.args.self.now in
    let about = (cells_of hub).about in
    let e = c.enter_board-board.ensures in
    let m = c.enter_board-board.new.pass in
    let b = c.enter_board-board.result in
    let stays = floor_stays m.seen b e.board.stands (subst (λ f. Permits b.settings b.state (event.Floor f) → ⊥) c.greatest_floor-floor.ensures (iff_false c.set_floor.ensures.lawful c.if-set_floor.false)) in
    called hub c.args.pass.now m c.leave_after-2.new.pass c.requires.of e.seen e.own e.same c.leave_after-2.ensures.of c.leave_after-2.ensures.free c.leave_after-2.ensures.same deed.Nothing _ c.leave_after-2.ensures.seen (subst (λ (s : State). s.floor ≡ greatest_floor s) (state_is about m.seen b e.board) stays)

pub returns-in_err-keep-2-clause-calls : goal.returns-in_err-keep-2-clause-calls
returns-in_err-keep-2-clause-calls g c =
    let hub = c.args.self.now in
    let about = (cells_of hub).about in
    let e = c.enter_board-board.ensures in
    let m = c.enter_board-board.new.pass in
    let b = c.enter_board-board.result in
    let stays = floor_stays m.seen b e.board.stands (subst (λ f. Permits b.settings b.state (event.Floor f) → ⊥) c.greatest_floor-floor.ensures (iff_false c.set_floor.ensures.lawful c.if-set_floor.false)) in
    called hub c.args.pass.now m c.leave_after-2.new.pass c.requires.of e.seen e.own e.same c.leave_after-2.ensures.of c.leave_after-2.ensures.free c.leave_after-2.ensures.same deed.Nothing _ c.leave_after-2.ensures.seen (subst (λ (s : State). s.floor ≡ greatest_floor s) (state_is about m.seen b e.board) stays)

pub returns-clause-floor : goal.returns-clause-floor
returns-clause-floor g c =
    let hub = c.args.self.now in
    let about = (cells_of hub).about in
    let e = c.enter_board-board.ensures in
    let m = c.enter_board-board.new.pass in
    let b = c.enter_board-board.result in
    let stays = floor_stays m.seen b e.board.stands (subst (λ f. Permits b.settings b.state (event.Floor f) → ⊥) c.greatest_floor-floor.ensures (iff_false c.set_floor.ensures.lawful c.if-set_floor.false)) in
    c.greatest_floor-floor.ensures ∙ sym stays ∙ ap (λ (s : State). s.floor) (state_is about m.seen b e.board) ∙ ap (λ l. (state_of hub l).floor) (sym (append-nil m.seen) ∙ sym c.leave_after-2.ensures.seen)

pub returns-clause-keep : goal.returns-clause-keep
returns-clause-keep g c =
    let hub = c.args.self.now in
    let about = (cells_of hub).about in
    let e = c.enter_board-board.ensures in
    let m = c.enter_board-board.new.pass in
    let b = c.enter_board-board.result in
    λ lt.
    let now = same_board about m.seen b c.set_floor.new.self e.board (OnFalse_at c.if-set_floor.false c.set_floor.ensures.unchanged) in
    let stays = floor_stays m.seen b e.board.stands (subst (λ f. Permits b.settings b.state (event.Floor f) → ⊥) c.greatest_floor-floor.ensures (iff_false c.set_floor.ensures.lawful c.if-set_floor.false)) in
    let at = ap (λ (x : BoardState). x.state.floor) (OnFalse_at c.if-set_floor.false c.set_floor.ensures.unchanged) ∙ stays ∙ sym c.greatest_floor-floor.ensures in
    subst (λ f. AreKeptPuts (accepted c.leave_after-2.new.pass.seen) f c.in_ok-keep-2.field-0) at
    (subst (λ cs. AreKeptPuts cs c.set_floor.new.self.state.floor c.in_ok-keep-2.field-0) (board_changes about _ c.set_floor.new.self now ∙ ap accepted (sym c.leave_after-2.ensures.seen)) (c.in_ok-keep-2.ensures (subst (λ f. c.args.above < f) (sym at) lt)))
