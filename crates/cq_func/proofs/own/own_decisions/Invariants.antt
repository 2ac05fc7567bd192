use Rattle.std.specs.Prelude.{reverse}
use Rattle.cq_func.specs.Walks.{IsStack, AreOwn}
use Rattle.cq_func.proofs.own.own_decisions.Given as goal

abbrev pub invariant-loop-at : goal.invariant-loop-at
invariant-loop-at l = IsStack l.functions l.at (reverse l.stack.items) × AreOwn l.lang l.tokens l.functions l.at l.own.items
