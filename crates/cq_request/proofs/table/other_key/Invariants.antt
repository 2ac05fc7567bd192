use Rattle.std.proofs.Common.{◌≡◌, map, string_cmp}
use Rattle.std.specs.Prelude.{not}
use Rattle.std.specs.List.Sorted.{IsStrictlySortedBy}
use Rattle.serde_json.specs.View.{view}
use Rattle.cq_request.specs.Tables.{is_of_row, other_key}
use Rattle.cq_request.proofs.LeastKey.{least_in}
use Rattle.cq_request.proofs.table.other_key.Given as goal

abbrev pub invariant-loop-name : goal.invariant-loop-name
invariant-loop-name g l =
    (goal.iterator-loop-name g).can_next l.name-iterator ×
    (goal.iterator-loop-name g).is_finite l.name-iterator ×
    IsStrictlySortedBy string_cmp l.name-iterator ×
    (least_in (λ key. not (is_of_row l.head (map g.F.Ruled.rule l.row) key)) l.name-iterator ≡ other_key l.head (map g.F.Ruled.rule l.row) (view l.value))
