use Rattle.std.proofs.Common.{◌≡◌, map, drop}
use Rattle.std.specs.List.{list_any}
use Rattle.std.specs.Str.{bytes_eq}
use Rattle.cq_request.proofs.table.has_field.Given as goal

abbrev pub invariant-loop-field : goal.invariant-loop-field
invariant-loop-field g l = list_any (λ r. bytes_eq l.key r.key) (map g.F.Ruled.rule (drop l.field-index l.row)) ≡ list_any (λ r. bytes_eq l.key r.key) (map g.F.Ruled.rule l.row)
