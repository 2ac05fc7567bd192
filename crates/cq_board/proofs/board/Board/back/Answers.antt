use Rattle.std.proofs.Common.{◌+◌, ◌-◌, ◌%◌, ◌^◌, ◌<◌, [], length, arith, refl, sym, ap, subst, None, is_none}
use Rattle.std.specs.Arc.{arc_value}
use Rattle.cq_history.specs.declared.event.Event.TheVariants as event
use Rattle.cq_history.specs.State.{Slot, IsTakenBy}
use Rattle.cq_kept.specs.Accepted.{Accepted}
use Rattle.cq_board.specs.Boards.{BoardOk}
use Rattle.cq_kept.specs.Slots.{slot_at, state_from}
use Rattle.cq_board.specs.Stands.{BoardState}
use Rattle.cq_board.proofs.Adding.{Adds_from}
use Rattle.cq_board.proofs.OneMore.{board_with, room_enough}
use Rattle.cq_board.proofs.SlotLists.{undone_kept, undone_behind, held_grows}
use Rattle.cq_board.proofs.Undoing.{undone-set_same}
use Rattle.cq_board.proofs.board.Board.back.Goals as goal

-- the room is that of the limit: all above the floor are kept, and no more than the limit are
pub note_given_back-requires : goal.note_given_back-requires
note_given_back-requires g c =
    let a : Accepted = c.self.inside.changes in
    let taken : IsTakenBy (state_from a.slots 0 0 []) c.args.change c.args.by = c.is_taken_by.ensures.0 c.if-not-is_taken_by.false in
    record {
      behind = undone_behind a.slots a.floor c.args.change (omega (arith, c.self.invariant.in_order)) taken.0;
      within = omega (arith, taken.0.0.0, taken.0.0.1);
      held = ap is_none taken.1;
      free = c.self.invariant.may_take;
      room = room_enough (g.W.Indexed.IsWorkOf c.self.inside.changes.settings) c.self.inside.changes.settings c.self.inside.changes.slots c.self.inside.changes.floor c.self.inside.undone c.self.inside.free c.self.inside.published c.self.inside.listed (arc_value c.self.inside.listing) c.self.inside.views.items c.self.invariant;
    }

pub hold-requires : goal.hold-requires
hold-requires g c =
    let a : Accepted = c.self.inside.changes in
    let taken : IsTakenBy (state_from a.slots 0 0 []) c.args.change c.args.by = c.is_taken_by.ensures.0 c.if-not-is_taken_by.false in
    undone_kept a.slots a.floor c.args.change (omega (arith, c.self.invariant.in_order)) taken.0

pub invariant_of-self : goal.invariant_of-self
invariant_of-self g c =
    let a : Accepted = c.self.inside.changes in
    let taken : IsTakenBy (state_from a.slots 0 0 []) c.args.change c.args.by = c.is_taken_by.ensures.0 c.if-not-is_taken_by.false in
    let slot : Slot = record { change = (slot_at a.slots c.args.change).change; finished = (slot_at a.slots c.args.change).finished; holder = None } in
    subst (λ (b : Accepted). BoardOk (g.W.Indexed.IsWorkOf b.settings) b c.self.inside.undone c.note_given_back.new.free c.self.inside.published c.self.inside.listed (arc_value c.self.inside.listing) c.self.inside.views.items) (sym c.hold.ensures)
    (board_with (g.W.Indexed.IsWorkOf c.self.inside.changes.settings) c.self.inside.changes.settings c.self.inside.changes.slots c.self.inside.changes.floor c.self.inside.undone c.self.inside.free c.self.inside.published c.self.inside.listed (arc_value c.self.inside.listing) c.self.inside.views.items c.self.invariant c.args.change slot c.self.inside.undone c.note_given_back.new.free refl
    (undone-set_same a.slots c.self.inside.undone c.self.invariant.not_done (c.args.change - 1) slot (omega (arith, taken.0.0.0, taken.0.0.1)) refl)
    (c.note_given_back.ensures.given slot refl) c.note_given_back.ensures.room (held_grows a.slots c.args.change None))

pub returns-clause-adds : goal.returns-clause-adds
returns-clause-adds g c =
    let a : Accepted = c.self.inside.changes in
    let taken : IsTakenBy (state_from a.slots 0 0 []) c.args.change c.args.by = c.is_taken_by.ensures.0 c.if-not-is_taken_by.false in
    Adds_from a.settings (state_from c.self.inside.changes.slots c.self.inside.published c.self.inside.changes.floor c.self.inside.views.items) _ c.self.inside.events _ c.args.self.now _ (event.Back c.args.by c.args.change) c.self.view_is
    (ap (λ (b : Accepted). let x : BoardState = record { settings = b.settings; state = state_from b.slots c.self.inside.published b.floor c.self.inside.views.items; events = (c.self.inside.events + 1) % 2 ^ 64 } in x) c.hold.ensures)
    refl refl (subst (λ (b : BoardState). c.args.by < length b.state.views) c.self.view_is (omega (arith, c.if-by-len.false))) taken tt
