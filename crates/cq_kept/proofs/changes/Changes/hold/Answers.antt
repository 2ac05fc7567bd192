use Rattle.std.proofs.Common.{List, refl, sym, ap, ◌∙◌, subst}
use Rattle.cq_history.specs.Gone.{IsKept}
use Rattle.cq_history.specs.State.{Slot}
use Rattle.cq_kept.specs.declared.kept.Kept.{Kept}
use Rattle.cq_kept.specs.Accepted.{Accepted, accepted_from, Holds, IsHeld}
use Rattle.cq_kept.specs.Slots.{slot_at, changes_of, with_holder}
use Rattle.cq_kept.proofs.Changing.{held_at, held_with}
use Rattle.cq_kept.proofs.Found.{held_there}
use Rattle.cq_kept.proofs.changes.Changes.hold.Goals as goal

pub held-self-inside-requires : goal.held-self-inside-requires
held-self-inside-requires g c = refl

-- the entry that is found at the number has the slot's change and work, and the new holder
pub invariant_of-self : goal.invariant_of-self
invariant_of-self g c =
    let s = c.self.inside in
    let IsWork = g.W.Indexed.IsWorkOf s.settings in
    let slots : List Slot = s.past.slots in
    let held : IsKept (changes_of slots) s.floor c.args.number = subst (λ (a : Accepted). Holds a c.args.number) (sym c.self.view_is) c.requires in
    let was = held_there IsWork slots s.floor s.kept c.self.invariant.holds c.args.number held in
    let at = held_at IsWork slots s.floor s.kept c.self.invariant.holds c.args.number was.0 was.1 in
    let now : Kept g.row.W.Denot = record { change = was.0.change; work = was.0.work; holder = c.args.holder } in
    let slot : Slot = record { change = (slot_at slots c.args.number).change; finished = (slot_at slots c.args.number).finished; holder = c.args.holder } in
    let turned = λ (x : Slot). let y : Slot = record { change = x.change; finished = x.finished; holder = c.args.holder } in y in
    subst (λ (all : List Slot). IsHeld IsWork s.settings all s.accepted s.floor c.set_holder.new.kept s.there s.text_bytes) (sym c.held-self-inside.ensures)
    (held_with IsWork s.settings slots s.accepted s.floor s.kept s.there s.text_bytes c.self.invariant c.args.number held slot refl now (ap turned at.0.0) at.0.1 c.set_holder.new.kept (c.set_holder.ensures was.0 was.1))

pub returns : goal.returns
returns g c = ap (λ (slots : List Slot). accepted_from c.self.inside.settings slots c.self.inside.floor) c.held-self-inside.ensures ∙ ap (λ (a : Accepted). accepted_from a.settings (with_holder a.slots c.args.number c.args.holder) a.floor) c.self.view_is
