use Rattle.cq_cells.specs.Passes.{IsPassOf, IsFree}
use Rattle.cq_part_cases.proofs.telling.tell_often.Given as goal

abbrev pub invariant-loop-step : goal.invariant-loop-step
invariant-loop-step g l = IsPassOf l.cells l.pass × IsFree l.pass
