use Rattle.std.proofs.Common.{ap, ◌∙◌}
use Rattle.cq_cells.proofs.Passing.{idle_seat, ok_less, ok_child}
use Rattle.cq_cells.proofs.cells.Cells.split_pass.Goals as goal

pub split-seat-requires-clause-free : goal.split-seat-requires-clause-free
split-seat-requires-clause-free g c = let p = c.pass.inside in
    idle_seat p.by p.next p.seat.me.0 p.seat.me.1 c.pass.invariant (ap (λ z. z.hand) c.pass.view_is ∙ c.requires.free)

pub invariant_of-pass : goal.invariant_of-pass
invariant_of-pass g c = let p = c.pass.inside in let q = c.split-seat.new.pass in
    ok_less p.by p.next p.seat.me.0 p.seat.me.1 q.me.0 q.me.1 c.pass.invariant c.split-seat.ensures.same.1 c.split-seat.ensures.same.2

pub invariant_of-result : goal.invariant_of-result
invariant_of-result g c = let p = c.pass.inside in let q = c.split-seat.result in
    ok_child p.by p.next p.seat.me.0 p.seat.me.1 q.me.0 q.me.1 c.pass.invariant c.split-seat.ensures.child.0 c.split-seat.ensures.child.1
