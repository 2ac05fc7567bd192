use Rattle.std.proofs.Common.{◌≡◌, subst}
use Rattle.std.specs.Prelude.{◌↔◌, IsSome, IfSome}
use Rattle.cq_kept.specs.Accepted.{Accepted, Holds}
use Rattle.cq_kept.specs.Slots.{slot_from, slot_at, IsWorked}
use Rattle.cq_kept.proofs.Found.{got_some, got_slot, got_work}
use Rattle.cq_kept.proofs.changes.Changes.get.Goals as goal

pub returns-clause-some : goal.returns-clause-some
returns-clause-some g c =
    let s = c.self.inside in
    subst (λ (a : Accepted). IsSome c.get.result ↔ Holds a c.args.number) c.self.view_is
    (got_some (g.W.Indexed.IsWorkOf s.settings) s.past.slots s.floor s.kept c.self.invariant.holds c.args.number c.get.result c.get.ensures.value)

pub returns-clause-slot : goal.returns-clause-slot
returns-clause-slot g c =
    let s = c.self.inside in
    subst (λ (a : Accepted). IfSome c.get.result (λ k. slot_from k.now ≡ slot_at a.slots c.args.number)) c.self.view_is
    (got_slot (g.W.Indexed.IsWorkOf s.settings) s.past.slots s.floor s.kept c.self.invariant.holds c.args.number c.get.result c.get.ensures.value)

pub returns-clause-work : goal.returns-clause-work
returns-clause-work g c =
    let s = c.self.inside in
    subst (λ (a : Accepted). IfSome c.get.result (λ k. IsWorked (g.W.Indexed.IsWorkOf a.settings) k.now)) c.self.view_is
    (got_work (g.W.Indexed.IsWorkOf s.settings) s.past.slots s.floor s.kept c.self.invariant.holds c.args.number c.get.result c.get.ensures.value)
