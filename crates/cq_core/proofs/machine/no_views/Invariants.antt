use Rattle.std.proofs.Common.{◌≡◌, replicate, None}
use Rattle.cq_core.proofs.machine.no_views.Given as goal

abbrev pub invariant-loop-caller : goal.invariant-loop-caller
invariant-loop-caller g l = l.views.items ≡ replicate l._caller None
