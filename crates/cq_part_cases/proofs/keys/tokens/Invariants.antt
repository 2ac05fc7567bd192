use Rattle.std.proofs.Common.{◌≡◌, length}
use Rattle.cq_part_cases.proofs.keys.tokens.Given as goal

abbrev pub invariant-loop-at : goal.invariant-loop-at
invariant-loop-at l = length l.norms.items ≡ l.at
