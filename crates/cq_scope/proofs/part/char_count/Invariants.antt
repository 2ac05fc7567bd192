use Rattle.std.proofs.Common.{◌≡◌, length}
use Rattle.cq_scope.proofs.part.char_count.Given as goal

abbrev pub invariant-loop-c : goal.invariant-loop-c
invariant-loop-c l = l.count ≡ length l.yielded
