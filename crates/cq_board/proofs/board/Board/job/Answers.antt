use Rattle.std.proofs.Common.{refl, sym, ap, ◌∙◌, subst, arith}
use Rattle.cq_history.specs.Changes.{is_put}
use Rattle.cq_history.specs.State.{Slot, IsAccepted}
use Rattle.cq_base.specs.Changes.{IsSoundChange}
use Rattle.cq_kept.specs.Slots.{slot_at, change_of, state_from}
use Rattle.cq_board.specs.Stands.{BoardState}
use Rattle.cq_board.proofs.SlotLists.{undone_is_put}
use Rattle.cq_board.proofs.Sounding.{slot_sound, job_text}
use Rattle.cq_board.proofs.board.Board.job.Goals as goal

pub undone_at-requires : goal.undone_at-requires
undone_at-requires g c = omega (arith, c.self.invariant.in_order)

pub job_of-requires : goal.job_of-requires
job_of-requires g c = record {
  put = ap (λ (s : Slot). is_put s.change) c.in-Some.ensures.slot ∙ undone_is_put (slot_at c.self.inside.changes.slots c.args.change) (c.in-Some.ensures.some.0 refl).1;
  text = c.in-Some.ensures.text;
}

pub returns-in_ok-job_of-in-Some-clause-text : goal.returns-in_ok-job_of-in-Some-clause-text
returns-in_ok-job_of-in-Some-clause-text g c =
    let slots = c.self.inside.changes.slots in
    let P : BoardState → Type 0 = λ b. IsAccepted b.state c.args.change in
    let accepted : IsAccepted (state_from c.self.inside.changes.slots c.self.inside.published c.self.inside.changes.floor c.self.inside.views.items) c.args.change = subst P (sym c.self.view_is) c.requires in
    let sound = subst IsSoundChange (sym (ap (λ (s : Slot). s.change) c.in-Some.ensures.slot)) (slot_sound slots c.args.change c.self.invariant.sound accepted) in
    job_text (change_of c.in-Some.kept.now.change) c.in_ok-job_of-in-Some.field-0 sound c.in_ok-job_of-in-Some.ensures.job
