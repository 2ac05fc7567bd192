use Rattle.std.proofs.Common.{◌≡◌, ℕ, ◌<◌, false}
use Rattle.cq_func.specs.Names.{ends_type}
use Rattle.cq_func.proofs.ts.type_end.Given as goal

abbrev pub invariant-loop-end : goal.invariant-loop-end
invariant-loop-end l = (k : ℕ) → l.at < k → k < l.end → ends_type l.which l.tokens k ≡ false
