use Rattle.std.proofs.Common.{◌≡◌, length}
use Rattle.cq_scope.proofs.parts.part_count.Given as goal

abbrev pub invariant-loop-part : goal.invariant-loop-part
invariant-loop-part l = l.count ≡ length l.yielded
