use Rattle.std.proofs.Common.{arith, ◌≡◌, ℕ, ◌+◌, [], ◌∷◌, ◌++◌, List, None, refl, sym, ap, ◌∙◌, subst}
use Rattle.cq_base.specs.declared.change.Change.{Change}
use Rattle.cq_history.specs.Changes.{text_len}
use Rattle.cq_history.specs.State.{Slot, new_slot}
use Rattle.cq_kept.specs.declared.kept.Kept.{Kept}
use Rattle.cq_kept.specs.Accepted.{Accepted, accepted_from, IsHeld, MayAccept}
use Rattle.cq_kept.specs.Presence.{AddsPlace}
use Rattle.cq_kept.specs.Slots.{change_of}
use Rattle.cq_kept.proofs.Changing.{held_as, held_more, long_fits, no_next, taken_back}
use Rattle.cq_kept.proofs.changes.Changes.accept.Goals as goal

pub insert-requires : goal.insert-requires
insert-requires g c =
    let s = c.self.inside in
    no_next (g.W.Indexed.IsWorkOf s.settings) s.settings s.past.slots s.accepted s.floor s.kept s.there s.text_bytes c.self.invariant

pub accepted-self-inside-requires : goal.accepted-self-inside-requires
accepted-self-inside-requires g c = refl

-- the change that is kept shares the texts of the one that came, so it is the same one; `note` is that of the one that came
pub invariant_of-self-2 : goal.invariant_of-self-2
invariant_of-self-2 g c =
    let s = c.self.inside in
    let IsWork = g.W.Indexed.IsWorkOf s.settings in
    let k : Kept g.row.W.Denot = record { change = c.in_ok-same.same; work = None; holder = None } in
    let same : change_of k.change ≡ change_of c.args.change = c.in_ok-same.ensures.change in
    let adds = subst (λ (d : Change). AddsPlace (s.accepted + 1) d s.there c.note.new.there) (sym same) c.in-Ok.ensures.more in
    let allowed : MayAccept (accepted_from s.settings s.past.slots s.floor) (change_of c.args.change) = subst (λ (a : Accepted). MayAccept a (change_of c.args.change)) (sym c.self.view_is) c.requires.allowed in
    let held = held_more IsWork s.settings s.past.slots s.accepted s.floor s.kept s.there s.text_bytes c.self.invariant k refl (c.in_ok-same.ensures.text ∙ c.requires.text) c.insert.new.kept c.in_ok-insert.ensures.more c.note.new.there adds (subst (λ (d : Change). MayAccept (accepted_from s.settings s.past.slots s.floor) d) (sym same) allowed) in
    let here = subst (λ (d : Change). IsHeld IsWork s.settings (s.past.slots ++ new_slot d ∷ []) (s.accepted + 1) s.floor c.insert.new.kept c.note.new.there (s.text_bytes + text_len d)) same held in
    subst (λ (slots : List Slot). IsHeld IsWork s.settings slots (s.accepted + 1) s.floor c.insert.new.kept c.note.new.there (s.text_bytes + c.text_len.result)) (sym c.accepted-self-inside.ensures)
    (subst (λ (n : ℕ). IsHeld IsWork s.settings (s.past.slots ++ new_slot (change_of c.args.change) ∷ []) (s.accepted + 1) s.floor c.insert.new.kept c.note.new.there (s.text_bytes + n)) (sym c.text_len.ensures) here)

pub returns-clause-more : goal.returns-clause-more
returns-clause-more g c =
    ap (λ (slots : List Slot). accepted_from c.self.inside.settings slots c.self.inside.floor) c.accepted-self-inside.ensures
    ∙ ap (λ (a : Accepted). accepted_from a.settings (a.slots ++ new_slot (change_of c.args.change) ∷ []) a.floor) c.self.view_is

-- where the change is not kept, what is kept is as before
pub invariant_of-self : goal.invariant_of-self
invariant_of-self g c =
    let s = c.self.inside in
    held_as (g.W.Indexed.IsWorkOf s.settings) s.settings s.past.slots s.accepted s.floor s.kept s.there s.text_bytes c.self.invariant c.insert.new.kept s.there c.in_err-insert.ensures.same c.self.invariant.presence

pub invariant_of-self-in-Err : goal.invariant_of-self-in-Err
invariant_of-self-in-Err g c =
    let s = c.self.inside in
    let IsWork = g.W.Indexed.IsWorkOf s.settings in
    let k : Kept g.row.W.Denot = record { change = c.in_ok-same.same; work = None; holder = None } in
    held_as IsWork s.settings s.past.slots s.accepted s.floor s.kept s.there s.text_bytes c.self.invariant c.remove.new.self c.note.new.there
    (taken_back IsWork s.settings s.past.slots s.accepted s.floor s.kept s.there s.text_bytes c.self.invariant k c.insert.new.kept.entries c.remove.new.self.entries c.in_ok-insert.ensures.more c.remove.ensures.entries)
    (c.in-Err.ensures.same _ _ c.self.invariant.presence)

pub overflow_add-self : goal.overflow_add-self
overflow_add-self g c =
    let s = c.self.inside in
    let IsWork = g.W.Indexed.IsWorkOf s.settings in
    let allowed : MayAccept (accepted_from s.settings s.past.slots s.floor) (change_of c.args.change) = subst (λ (a : Accepted). MayAccept a (change_of c.args.change)) (sym c.self.view_is) c.requires.allowed in
    let fits = long_fits IsWork s.settings s.past.slots s.accepted s.floor s.kept s.there s.text_bytes c.self.invariant (change_of c.args.change) allowed.2 in
    let few = c.self.ranges in
    omega (arith, fits, few, c.text_len.ensures)
