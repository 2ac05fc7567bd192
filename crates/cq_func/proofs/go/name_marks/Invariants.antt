use Rattle.std.proofs.Common.{◌≡◌}
use Rattle.std.specs.Prelude.{map}
use Rattle.std.specs.List.{range_with_len}
use Rattle.cq_func.specs.Names.{go_name}
use Rattle.cq_func.proofs.go.name_marks.Given as goal

abbrev pub invariant-loop-at : goal.invariant-loop-at
invariant-loop-at l = l.marks.items ≡ map (go_name l.tokens) (range_with_len 0 l.at)
