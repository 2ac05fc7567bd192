use Rattle.std.proofs.Common.{◌<◌, length, ◌+◌, ◌-◌, ◌%◌, ◌^◌, [], arith, refl, sym, ap, subst, true, rules}
use Rattle.std.specs.Arc.{arc_value}
use Rattle.cq_history.specs.declared.event.Event.TheVariants as event
use Rattle.cq_history.specs.Changes.{IsWorkFor}
use Rattle.cq_history.specs.State.{Slot, slot_of, IsAccepted, IsUndone}
use Rattle.cq_kept.specs.Accepted.{Accepted}
use Rattle.cq_board.specs.Boards.{BoardOk}
use Rattle.cq_kept.specs.Slots.{slot_at, state_from}
use Rattle.cq_board.specs.Stands.{BoardState}
use Rattle.cq_board.proofs.Adding.{Adds_from}
use Rattle.cq_board.proofs.Freeing.{done_free}
use Rattle.cq_board.proofs.OneMore.{board_with}
use Rattle.cq_board.proofs.SlotLists.{undone_kept, worked_is_done, worked_grows, done_not_free}
use Rattle.cq_board.proofs.Undoing.{undone-set_done}
use Rattle.cq_board.proofs.board.Board.done.Goals as goal

pub undone_at-requires : goal.undone_at-requires
undone_at-requires g c = omega (arith, c.self.invariant.in_order)

-- `undone` below is what `undone_at` found where it is not none
pub finish-requires : goal.finish-requires
finish-requires g c =
    let a : Accepted = c.self.inside.changes in
    let undone : IsUndone (state_from a.slots 0 0 []) c.args.change = c.undone_at.ensures.some.0 (search rules) in
    let Q : BoardState → Type 0 = λ b. IsWorkFor (g.W.Indexed.IsWorkOf b.settings) (slot_of b.state c.args.change).change (arc_value c.args.work) in
    record {
      held = undone_kept a.slots a.floor c.args.change (omega (arith, c.self.invariant.in_order)) undone;
      work = subst Q (sym c.self.view_is) c.requires.work;
    }

pub invariant_of-self : goal.invariant_of-self
invariant_of-self g c =
    let a : Accepted = c.self.inside.changes in
    let P : BoardState → Type 0 = λ b. IsAccepted b.state c.args.change in
    let accepted : IsAccepted (state_from c.self.inside.changes.slots c.self.inside.published c.self.inside.changes.floor c.self.inside.views.items) c.args.change = subst P (sym c.self.view_is) c.requires.accepted in
    let slot : Slot = record { change = (slot_at a.slots c.args.change).change; finished = true; holder = (slot_at a.slots c.args.change).holder } in
    let within : c.args.change - 1 < length a.slots = omega (arith, accepted.0, accepted.1) in
    let yes = worked_is_done a.slots c.args.change in
    subst (λ (b : Accepted). BoardOk (g.W.Indexed.IsWorkOf b.settings) b c.remove.new.self c.self.inside.free c.self.inside.published c.self.inside.listed (arc_value c.self.inside.listing) c.self.inside.views.items) (sym c.finish.ensures)
    (board_with (g.W.Indexed.IsWorkOf c.self.inside.changes.settings) c.self.inside.changes.settings c.self.inside.changes.slots c.self.inside.changes.floor c.self.inside.undone c.self.inside.free c.self.inside.published c.self.inside.listed (arc_value c.self.inside.listing) c.self.inside.views.items c.self.invariant c.args.change slot c.remove.new.self c.self.inside.free refl
    (undone-set_done a.slots c.self.inside.undone c.self.invariant.not_done (c.args.change - 1) slot c.remove.new.self within yes c.remove.ensures.updates.0)
    (done_free a.slots a.floor c.self.inside.free c.self.invariant.may_take (c.args.change - 1) slot within refl (done_not_free slot yes))
    (omega arith) (worked_grows a.slots c.args.change))

pub returns-clause-adds : goal.returns-clause-adds
returns-clause-adds g c _ =
    let a : Accepted = c.self.inside.changes in
    let undone : IsUndone (state_from a.slots 0 0 []) c.args.change = c.undone_at.ensures.some.0 (search rules) in
    Adds_from a.settings (state_from c.self.inside.changes.slots c.self.inside.published c.self.inside.changes.floor c.self.inside.views.items) _ c.self.inside.events _ c.args.self.now _ (event.Done c.args.by c.args.change) c.self.view_is
    (ap (λ (b : Accepted). let x : BoardState = record { settings = b.settings; state = state_from b.slots c.self.inside.published b.floor c.self.inside.views.items; events = (c.self.inside.events + 1) % 2 ^ 64 } in x) c.finish.ensures)
    refl refl c.requires.caller undone tt
