use Rattle.std.proofs.Common.{◌≡◌, ◌++◌, take, drop, false}
use Rattle.cq_scope.specs.Rows.{spread}
use Rattle.cq_scope.proofs.row.spread.Given as goal

abbrev pub invariant-loop-i : goal.invariant-loop-i
invariant-loop-i l = take l.i l.row ++ spread l.is_set (drop l.i l.row) ≡ spread false l.initial.row
