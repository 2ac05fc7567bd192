use Rattle.std.proofs.Common.{◌≡◌, ◌<◌, ℕ, subst}
use Rattle.cq_kept.specs.Accepted.{Accepted, Holds, IsNextHeld}
use Rattle.cq_kept.specs.Slots.{slot_from, slot_at, IsWorked}
use Rattle.cq_kept.proofs.Found.{next_is, next_none}
use Rattle.cq_kept.proofs.changes.Changes.next.Goals as goal

pub returns-in-Some-clause-next : goal.returns-in-Some-clause-next
returns-in-Some-clause-next g c =
    let s = c.self.inside in
    subst (λ (a : Accepted). IsNextHeld a c.args.after c.in-Some.number.now) c.self.view_is
    (next_is (g.W.Indexed.IsWorkOf s.settings) s.past.slots s.floor s.kept c.self.invariant.holds s.settings c.args.after c.range.result (c.range.ensures.in_range tt) c.in-Some.number.now c.in-Some.kept.now c.next.new.self c.in-Some.ensures.steps).0

pub returns-in-Some-clause-slot : goal.returns-in-Some-clause-slot
returns-in-Some-clause-slot g c =
    let s = c.self.inside in
    subst (λ (a : Accepted). slot_from c.in-Some.kept.now ≡ slot_at a.slots c.in-Some.number.now) c.self.view_is
    (next_is (g.W.Indexed.IsWorkOf s.settings) s.past.slots s.floor s.kept c.self.invariant.holds s.settings c.args.after c.range.result (c.range.ensures.in_range tt) c.in-Some.number.now c.in-Some.kept.now c.next.new.self c.in-Some.ensures.steps).1.0

pub returns-in-Some-clause-work : goal.returns-in-Some-clause-work
returns-in-Some-clause-work g c =
    let s = c.self.inside in
    subst (λ (a : Accepted). IsWorked (g.W.Indexed.IsWorkOf a.settings) c.in-Some.kept.now) c.self.view_is
    (next_is (g.W.Indexed.IsWorkOf s.settings) s.past.slots s.floor s.kept c.self.invariant.holds s.settings c.args.after c.range.result (c.range.ensures.in_range tt) c.in-Some.number.now c.in-Some.kept.now c.next.new.self c.in-Some.ensures.steps).1.1

pub returns-in-None-clause-none : goal.returns-in-None-clause-none
returns-in-None-clause-none g c _ =
    let s = c.self.inside in
    let P : Accepted → Type 0 = λ a. (number : ℕ) → c.args.after < number → Holds a number → ⊥ in
    subst P c.self.view_is
    (next_none (g.W.Indexed.IsWorkOf s.settings) s.past.slots s.floor s.kept c.self.invariant.holds s.settings c.args.after c.range.result (c.range.ensures.in_range tt) c.in-None.ensures.steps.0)
