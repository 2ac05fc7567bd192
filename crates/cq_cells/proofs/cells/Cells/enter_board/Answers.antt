use Rattle.std.proofs.Common.{◌<◌, ℕ, None, refl, sym, subst, subst₂, ap, ◌∙◌}
use Rattle.cq_cells.specs.Callers.{OwnSame, NoneFrom}
use Rattle.cq_cells.proofs.Passing.{idle_seat, ok_held, owns}
use Rattle.cq_cells.proofs.cells.Cells.enter_board.Goals as goal

pub take-requires-clause-free : goal.take-requires-clause-free
take-requires-clause-free g c = let p = c.pass.inside in
    idle_seat p.by p.next p.seat.me.0 p.seat.me.1 c.pass.invariant (ap (λ z. z.hand) c.pass.view_is ∙ c.requires.free)

pub invariant_of-pass : goal.invariant_of-pass
invariant_of-pass g c = let p = c.pass.inside in let q = c.take.new.pass in
    ok_held p.by p.next p.seat.me.0 p.seat.me.1 q.me.0 q.me.1 _ c.take.result None c.pass.invariant c.take.ensures.hand c.take.ensures.own.1

pub returns-clause-own : goal.returns-clause-own
returns-clause-own g c = let v = c.take.ensures.value in let was = c.pass.inside.seat.me.0 in
    owns g.L.Law.caller _ _ _ c.pass.view_is c.requires.of.has_caller (subst (λ l. OwnSame g.L.Law.caller was.callers l was.seen) (sym (v.5 refl)) v.8)

pub returns-clause-unmade : goal.returns-clause-unmade
returns-clause-unmade g c = let v = c.take.ensures.value in let next = c.take.ensures.own.1.2 in
    λ pos. subst₂ (NoneFrom g.L.Law.caller) (sym next) (sym (v.5 refl)) (v.11 (subst (λ (n : ℕ). 0 < n) next pos))
