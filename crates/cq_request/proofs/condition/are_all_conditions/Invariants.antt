use Rattle.std.proofs.Common.{◌≡◌, drop, map}
use Rattle.std.specs.List.{list_all}
use Rattle.std.specs.Prelude.{is_some}
use Rattle.serde_json.specs.View.{view}
use Rattle.cq_request.specs.Conditions.{condition_of}
use Rattle.cq_request.proofs.condition.are_all_conditions.Given as goal

abbrev pub invariant-loop-value : goal.invariant-loop-value
invariant-loop-value l = list_all (λ d. is_some (condition_of d)) (map view (drop l.value-index l.values)) ≡ list_all (λ d. is_some (condition_of d)) (map view l.values)
