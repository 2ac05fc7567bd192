use Rattle.std.proofs.Common.{◌+◌, ◌-◌}
use Rattle.cq_groups.proofs.Kept.{KeptInRow}
use Rattle.cq_groups.proofs.keeping.keep_row.Given as goal

abbrev pub invariant-loop-i : goal.invariant-loop-i
invariant-loop-i l = KeptInRow l.tokens l.row l.fn.last l.latest l.i l.initial.kept.items l.kept.items

abbrev pub decreases-loop-i : goal.decreases-loop-i
decreases-loop-i l = l.row.others + 1 - l.i
