use Rattle.std.proofs.Common.{set, ◌≡◌, ◌+◌, ◌-◌, ◌<◌, ◌≤◌, ◌%◌, ◌^◌, [], ℕ, length, arith, refl, sym, ap, ◌∙◌, subst, Some}
use Rattle.std.specs.Arc.{arc_value}
use Rattle.cq_history.specs.declared.event.Event.TheVariants as event
use Rattle.cq_history.specs.State.{Slot, after, first_free, IsAccepted, IsUndone}
use Rattle.cq_kept.specs.Accepted.{Accepted}
use Rattle.cq_board.specs.Boards.{BoardOk}
use Rattle.cq_board.specs.Free.{AreFree}
use Rattle.cq_kept.specs.Slots.{slot_at, state_from}
use Rattle.cq_board.specs.Stands.{BoardState}
use Rattle.cq_board.proofs.Adding.{Adds_from}
use Rattle.cq_board.proofs.OneMore.{board_with, board_free}
use Rattle.cq_board.proofs.SlotLists.{first_is_free, is_next, free_is_put, free_not_done, undone_kept, held_grows}
use Rattle.cq_board.proofs.Sounding.{slot_sound, job_text}
use Rattle.cq_board.proofs.Undoing.{undone-set_same}
use Rattle.cq_board.proofs.board.Board.take.Goals as goal

-- the index of the first free change is not past the end
below_end : (i n m : ℕ) → i ≤ m → (i ≡ n → ⊥) → n ≡ m → i < m
below_end i n m le other same = omega (arith, le, other, same)

pub first_free-i-requires : goal.first_free-i-requires
first_free-i-requires g c = record { undone = c.self.invariant.not_done; free = c.self.invariant.may_take }

pub job_at-requires : goal.job_at-requires
job_at-requires g c =
    let slots = c.self.inside.changes.slots in
    let i = c.first_free-i.result in
    let within : i < length slots = below_end i c.len.result (length slots) c.first_free-i.ensures.within c.if-i-len.false c.len.ensures in
    let free = first_is_free slots i c.first_free-i.ensures.first within in
    let undone : IsUndone (state_from slots 0 0 []) (i + 1) = ((omega arith, omega (arith, within)), free_not_done (slot_at slots (i + 1)) free) in
    record {
      held = undone_kept slots c.self.inside.changes.floor (i + 1) (omega (arith, c.self.invariant.in_order)) undone;
      put = free_is_put (slot_at slots (i + 1)) free;
      undone = free_not_done (slot_at slots (i + 1)) free;
    }

pub hold-requires : goal.hold-requires
hold-requires g c =
    let slots = c.self.inside.changes.slots in
    let i = c.first_free-i.result in
    let within : i < length slots = below_end i c.len.result (length slots) c.first_free-i.ensures.within c.if-i-len.false c.len.ensures in
    let free = first_is_free slots i c.first_free-i.ensures.first within in
    undone_kept slots c.self.inside.changes.floor (i + 1) (omega (arith, c.self.invariant.in_order)) ((omega arith, omega (arith, within)), free_not_done (slot_at slots (i + 1)) free)

pub invariant_of-self-2 : goal.invariant_of-self-2
invariant_of-self-2 g c =
    let a : Accepted = c.self.inside.changes in
    let i = c.first_free-i.result in
    let within : i < length a.slots = below_end i c.len.result (length a.slots) c.first_free-i.ensures.within c.if-i-len.false c.len.ensures in
    let slot : Slot = record { change = (slot_at a.slots (i + 1)).change; finished = (slot_at a.slots (i + 1)).finished; holder = Some c.args.by } in
    subst (λ (b : Accepted). BoardOk (g.W.Indexed.IsWorkOf b.settings) b c.self.inside.undone c.note_taken.new.free c.self.inside.published c.self.inside.listed (arc_value c.self.inside.listing) c.self.inside.views.items) (sym c.hold.ensures)
    (board_with (g.W.Indexed.IsWorkOf c.self.inside.changes.settings) c.self.inside.changes.settings c.self.inside.changes.slots c.self.inside.changes.floor c.self.inside.undone c.self.inside.free c.self.inside.published c.self.inside.listed (arc_value c.self.inside.listing) c.self.inside.views.items c.self.invariant (i + 1) slot c.self.inside.undone c.note_taken.new.free refl
    (undone-set_same a.slots c.self.inside.undone c.self.invariant.not_done (i + 1 - 1) slot (omega (arith, within)) refl)
    (subst (λ (n : ℕ). AreFree (set a.slots n slot) a.floor c.note_taken.new.free) (let e : i ≡ i + 1 - 1 = omega arith in e) (c.note_taken.ensures.taken a.slots a.floor slot c.first_free-i.ensures.free c.first_free-i.ensures.first within refl))
    (omega (arith, c.first_free-i.ensures.room, c.note_taken.ensures.room)) (held_grows a.slots (i + 1) (Some c.args.by)))

pub returns-clause-taken : goal.returns-clause-taken
returns-clause-taken g c =
    let a : Accepted = c.self.inside.changes in
    let i = c.first_free-i.result in
    let within : i < length a.slots = below_end i c.len.result (length a.slots) c.first_free-i.ensures.within c.if-i-len.false c.len.ensures in
    Adds_from a.settings (state_from c.self.inside.changes.slots c.self.inside.published c.self.inside.changes.floor c.self.inside.views.items) _ c.self.inside.events _ c.args.self.now _ (event.Took c.args.by c.in_ok-job.job.change) c.self.view_is
    (ap (λ (b : Accepted). let x : BoardState = record { settings = b.settings; state = state_from b.slots c.self.inside.published b.floor c.self.inside.views.items; events = (c.self.inside.events + 1) % 2 ^ 64 } in x) c.hold.ensures)
    refl (ap (λ r. after (state_from c.self.inside.changes.slots c.self.inside.published c.self.inside.changes.floor c.self.inside.views.items) (event.Took c.args.by r)) (sym c.in_ok-job.ensures.number)) c.requires
    (is_next a.slots c.self.inside.published a.floor c.self.inside.views.items i c.in_ok-job.job.change c.first_free-i.ensures.first within c.in_ok-job.ensures.number) tt

pub returns-clause-first : goal.returns-clause-first
returns-clause-first g c =
    let a : Accepted = c.self.inside.changes in
    let i = c.first_free-i.result in
    let within : i < length a.slots = below_end i c.len.result (length a.slots) c.first_free-i.ensures.within c.if-i-len.false c.len.ensures in
    (is_next a.slots c.self.inside.published a.floor c.self.inside.views.items i c.in_ok-job.job.change c.first_free-i.ensures.first within c.in_ok-job.ensures.number).0 ∙ ap (λ (b : BoardState). first_free b.state) c.self.view_is

pub returns-clause-unchanged : goal.returns-clause-unchanged
returns-clause-unchanged g c =
    let a : Accepted = c.self.inside.changes in
    let i = c.first_free-i.result in
    let within : i < length a.slots = below_end i c.len.result (length a.slots) c.first_free-i.ensures.within c.if-i-len.false c.len.ensures in
    let next = is_next a.slots c.self.inside.published a.floor c.self.inside.views.items i (i + 1) c.first_free-i.ensures.first within refl in
    let P : BoardState → Type 0 = λ b. IsAccepted b.state (first_free b.state) in
    subst P c.self.view_is (subst (IsAccepted (state_from c.self.inside.changes.slots c.self.inside.published c.self.inside.changes.floor c.self.inside.views.items)) next.0 next.1)

pub returns-clause-text : goal.returns-clause-text
returns-clause-text g c =
    let a : Accepted = c.self.inside.changes in
    let i = c.first_free-i.result in
    let within : i < length a.slots = below_end i c.len.result (length a.slots) c.first_free-i.ensures.within c.if-i-len.false c.len.ensures in
    job_text (slot_at a.slots (i + 1)).change c.in_ok-job.job (slot_sound a.slots (i + 1) c.self.invariant.sound (omega arith, omega (arith, within))) c.in_ok-job.ensures.job

pub invariant_of-self : goal.invariant_of-self
invariant_of-self g c = board_free (g.W.Indexed.IsWorkOf c.self.inside.changes.settings) c.self.inside.changes.settings c.self.inside.changes.slots c.self.inside.changes.floor c.self.inside.undone c.self.inside.free c.self.inside.published c.self.inside.listed (arc_value c.self.inside.listing) c.self.inside.views.items c.self.invariant c.first_free-i.new.free c.first_free-i.ensures.free (omega (arith, c.first_free-i.ensures.room))

pub invariant_of-self-in_err-job : goal.invariant_of-self-in_err-job
invariant_of-self-in_err-job g c = board_free (g.W.Indexed.IsWorkOf c.self.inside.changes.settings) c.self.inside.changes.settings c.self.inside.changes.slots c.self.inside.changes.floor c.self.inside.undone c.self.inside.free c.self.inside.published c.self.inside.listed (arc_value c.self.inside.listing) c.self.inside.views.items c.self.invariant c.first_free-i.new.free c.first_free-i.ensures.free (omega (arith, c.first_free-i.ensures.room))
