use Rattle.std.proofs.Common.{◌≡◌}
use Rattle.std.specs.Prelude.{map}
use Rattle.std.specs.List.{range_with_len}
use Rattle.cq_func.specs.Tables.{open_mark}
use Rattle.cq_func.proofs.go.open_marks.Given as goal

abbrev pub invariant-loop-at : goal.invariant-loop-at
invariant-loop-at l = l.marks.items ≡ map (open_mark l.tokens) (range_with_len 0 l.at)
