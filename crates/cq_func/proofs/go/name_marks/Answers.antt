use Rattle.std.proofs.Common.{rules}
use Rattle.cq_func.specs.Names.{go_name}
use Rattle.cq_func.proofs.Marks.{marks_more}
use Rattle.cq_func.proofs.go.name_marks.Goals as goal

pub loop-at-preserved : goal.loop-at-preserved
loop-at-preserved c = let next = marks_more (go_name c.args.tokens.now) c.loop-at.at c.loop-at.marks.items _ c.loop-at.invariant c.go_name.ensures.is in search (rules, next)
