use Rattle.std.proofs.Common.{rules}
use Rattle.cq_func.specs.Tables.{open_mark}
use Rattle.cq_func.proofs.Marks.{marks_more}
use Rattle.cq_func.proofs.go.open_marks.Goals as goal

pub loop-at-preserved : goal.loop-at-preserved
loop-at-preserved c = let next = marks_more (open_mark c.args.tokens.now) c.loop-at.at c.loop-at.marks.items _ c.loop-at.invariant c.open_mark.ensures.is in search (rules, next)
