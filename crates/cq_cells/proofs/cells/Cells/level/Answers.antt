use Rattle.std.proofs.Common.{ap, ◌∙◌}
use Rattle.cq_cells.proofs.Passing.{idle_seat, joined_least}
use Rattle.cq_cells.proofs.cells.Cells.level.Goals as goal

pub level-requires-clause-free : goal.level-requires-clause-free
level-requires-clause-free g c = let p = c.pass.inside in let q = c.other.inside in (
  idle_seat p.by p.next p.seat.me.0 p.seat.me.1 c.pass.invariant (ap (λ z. z.hand) c.pass.view_is ∙ c.requires.free.0),
  idle_seat q.by q.next q.seat.me.0 q.seat.me.1 c.other.invariant (ap (λ z. z.hand) c.other.view_is ∙ c.requires.free.1),
)

pub returns-clause-least : goal.returns-clause-least
returns-clause-least g c = let p = c.pass.inside in let q = c.other.inside in
    joined_least p.seat.table_id q.seat.table_id p.asked q.asked p.seat.me.0 q.seat.me.0 c.level.new.pass.me.0 _ _ c.pass.view_is c.other.view_is c.level.ensures.known
