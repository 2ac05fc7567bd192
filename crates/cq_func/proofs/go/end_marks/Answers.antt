use Rattle.std.proofs.Common.{rules}
use Rattle.cq_func.specs.Levels.{end_mark}
use Rattle.cq_func.proofs.Marks.{marks_more}
use Rattle.cq_func.proofs.go.end_marks.Goals as goal

pub loop-at-preserved : goal.loop-at-preserved
loop-at-preserved c = let next = marks_more (end_mark c.args.tokens.now) c.loop-at.at c.loop-at.marks.items _ c.loop-at.invariant c.end_mark.ensures in search (rules, next)
