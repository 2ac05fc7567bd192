use Rattle.std.proofs.Common.{◌≡◌, drop}
use Rattle.std.specs.Vec.Iter.{into_iter_items}
use Rattle.cq_projects.proofs.merging.let_go.Given as goal

abbrev pub invariant-loop-step : goal.invariant-loop-step
invariant-loop-step g l = into_iter_items l.rest ≡ drop l._step (into_iter_items l.fn.rest)
