use Rattle.std.proofs.Common.{drop}
use Rattle.cq_measures.proofs.CodeLines.{IsWalked}
use Rattle.cq_measures.proofs.counting.lines_in_order.Given as goal

abbrev pub invariant-loop-token : goal.invariant-loop-token
invariant-loop-token l = IsWalked l.tokens (drop l.token-index l.tokens) l.first l.free l.lines
