use Rattle.std.proofs.Common.{List, Some, true, refl, sym, ap, ◌∙◌, subst}
use Rattle.std.specs.Arc.{arc_value}
use Rattle.cq_base.specs.declared.change.Change.{Change}
use Rattle.cq_history.specs.Changes.{IsWorkFor}
use Rattle.cq_history.specs.Gone.{IsKept}
use Rattle.cq_history.specs.State.{Slot}
use Rattle.cq_kept.specs.declared.kept.Kept.{Kept}
use Rattle.cq_kept.specs.Accepted.{Accepted, accepted_from, Holds, IsHeld}
use Rattle.cq_kept.specs.Slots.{slot_at, change_of, given_up, changes_of, with_work}
use Rattle.cq_kept.proofs.Changing.{held_at, held_with, change_given_up}
use Rattle.cq_kept.proofs.Found.{held_there}
use Rattle.cq_kept.proofs.changes.Changes.finish.Goals as goal

pub finished-self-inside-requires : goal.finished-self-inside-requires
finished-self-inside-requires g c = refl

-- the entry that is found at the number has the slot's change and holder, and the work of that change
pub invariant_of-self : goal.invariant_of-self
invariant_of-self g c =
    let s = c.self.inside in
    let IsWork = g.W.Indexed.IsWorkOf s.settings in
    let slots : List Slot = s.past.slots in
    let held : IsKept (changes_of slots) s.floor c.args.number = subst (λ (a : Accepted). Holds a c.args.number) (sym c.self.view_is) c.requires.held in
    let was = held_there IsWork slots s.floor s.kept c.self.invariant.holds c.args.number held in
    let at = held_at IsWork slots s.floor s.kept c.self.invariant.holds c.args.number was.0 was.1 in
    let now : Kept g.row.W.Denot = record { change = given_up was.0.change; work = Some c.args.work; holder = was.0.holder } in
    let slot : Slot = record { change = (slot_at slots c.args.number).change; finished = true; holder = (slot_at slots c.args.number).holder } in
    let turned = λ (x : Slot). let y : Slot = record { change = x.change; finished = true; holder = x.holder } in y in
    let with_change_of = λ (d : Change). let y : Slot = record { change = d; finished = true; holder = was.0.holder } in y in
    let asked : IsWorkFor IsWork (slot_at slots c.args.number).change (arc_value c.args.work) =
    subst (λ (a : Accepted). IsWorkFor (g.W.Indexed.IsWorkOf a.settings) (slot_at a.slots c.args.number).change (arc_value c.args.work)) (sym c.self.view_is) c.requires.work in
    let worked : IsWorkFor IsWork (change_of (given_up was.0.change)) (arc_value c.args.work) = subst (λ (d : Change). IsWorkFor IsWork d (arc_value c.args.work)) (sym (change_given_up was.0.change ∙ ap (λ (x : Slot). x.change) at.0.0)) asked in
    subst (λ (all : List Slot). IsHeld IsWork s.settings all s.accepted s.floor c.set_work.new.kept s.there s.text_bytes) (sym c.finished-self-inside.ensures)
    (held_with IsWork s.settings slots s.accepted s.floor s.kept s.there s.text_bytes c.self.invariant c.args.number held slot refl now (ap with_change_of (change_given_up was.0.change) ∙ ap turned at.0.0) worked c.set_work.new.kept (c.set_work.ensures was.0 was.1))

pub returns : goal.returns
returns g c = ap (λ (slots : List Slot). accepted_from c.self.inside.settings slots c.self.inside.floor) c.finished-self-inside.ensures ∙ ap (λ (a : Accepted). accepted_from a.settings (with_work a.slots c.args.number) a.floor) c.self.view_is
