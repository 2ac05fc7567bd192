use Rattle.std.proofs.Common.{ap, sym, ◌∙◌, ◌<◌, length, subst}
use Rattle.cq_cells.proofs.Passing.{idle_seat, ok_joined, joined_least, owns}
use Rattle.cq_cells.proofs.cells.Cells.join_pass.Goals as goal

pub join-requires-clause-free : goal.join-requires-clause-free
join-requires-clause-free g c = let p = c.pass.inside in let q = c.other.inside in (
  idle_seat p.by p.next p.seat.me.0 p.seat.me.1 c.pass.invariant (ap (λ z. z.hand) c.pass.view_is ∙ c.requires.free.0),
  idle_seat q.by q.next q.seat.me.0 q.seat.me.1 c.other.invariant (ap (λ z. z.hand) c.other.view_is ∙ c.requires.free.1),
)

pub invariant_of-pass : goal.invariant_of-pass
invariant_of-pass g c = let p = c.pass.inside in let q = c.join.new.pass in
    ok_joined p.by p.next p.seat.me.0 p.seat.me.1 q.me.0 q.me.1 _ (subst (λ z. 0 < length z.callers) (sym c.pass.view_is) c.requires.of.0.has_caller)
    c.pass.invariant c.join.ensures.own.1 c.join.ensures.callers.0 c.join.ensures.callers.1

pub returns-clause-least : goal.returns-clause-least
returns-clause-least g c = let p = c.pass.inside in let q = c.other.inside in
    joined_least p.seat.table_id q.seat.table_id p.asked q.asked p.seat.me.0 q.seat.me.0 c.join.new.pass.me.0 _ _ c.pass.view_is c.other.view_is c.join.ensures.known

pub returns-clause-own : goal.returns-clause-own
returns-clause-own g c = (
  owns g.L.Law.caller _ _ _ c.pass.view_is c.requires.of.0.has_caller c.join.ensures.mine,
  owns g.L.Law.caller _ _ _ c.other.view_is c.requires.of.1.has_caller c.join.ensures.theirs,
)
