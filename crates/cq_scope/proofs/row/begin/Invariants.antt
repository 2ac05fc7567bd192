use Rattle.std.proofs.Common.{◌≡◌, ◌++◌, take, drop, true}
use Rattle.cq_scope.specs.Rows.{begun}
use Rattle.cq_scope.proofs.row.begin.Given as goal

abbrev pub invariant-loop-i : goal.invariant-loop-i
invariant-loop-i l = take l.i l.row ++ begun l.is_set (drop l.i l.row) ≡ begun true l.initial.row
