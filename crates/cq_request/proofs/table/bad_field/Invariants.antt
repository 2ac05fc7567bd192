use Rattle.std.proofs.Common.{◌≡◌, map, drop}
use Rattle.serde_json.specs.View.{view}
use Rattle.cq_request.specs.Tables.{bad_field}
use Rattle.cq_request.proofs.table.bad_field.Given as goal

abbrev pub invariant-loop-field : goal.invariant-loop-field
invariant-loop-field g l = bad_field (map g.F.Ruled.rule (drop l.field-index l.row)) (view l.value) ≡ bad_field (map g.F.Ruled.rule l.row) (view l.value)
