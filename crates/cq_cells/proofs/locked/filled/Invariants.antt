use Rattle.std.proofs.Common.{◌≡◌, Some, map}
use Rattle.cq_cells.proofs.locked.filled.Given as goal

abbrev pub invariant-loop-value : goal.invariant-loop-value
invariant-loop-value g l = l.slots.items ≡ map Some l.yielded
