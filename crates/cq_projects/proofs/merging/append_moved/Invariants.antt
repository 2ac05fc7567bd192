use Rattle.std.proofs.Common.{◌≡◌, ◌++◌, take, drop}
use Rattle.std.specs.Vec.Iter.{into_iter_items}
use Rattle.cq_projects.proofs.merging.append_moved.Given as goal

abbrev pub invariant-loop-step : goal.invariant-loop-step
invariant-loop-step g l = (l.done.items ≡ l.fn.done.items ++ take l._step (into_iter_items l.fn.rest)) × (into_iter_items l.rest ≡ drop l._step (into_iter_items l.fn.rest))
