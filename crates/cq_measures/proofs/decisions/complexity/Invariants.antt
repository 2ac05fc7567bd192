use Rattle.std.proofs.Common.{◌≡◌, ◌≤◌, ◌+◌, drop, []}
use Rattle.cq_measures.specs.Decisions.{decisions_after}
use Rattle.cq_measures.proofs.decisions.complexity.Given as goal

-- the decisions so far and those of the tokens that are left are all
abbrev pub invariant-loop-token : goal.invariant-loop-token
invariant-loop-token l = (l.decisions + decisions_after l.lang l.before (drop l.token-index l.tokens) ≡ decisions_after l.lang [] l.tokens) × (l.decisions ≤ l.token-index)
