use Rattle.std.proofs.Common.{◌≡◌, take}
use Rattle.std.specs.List.{filter_map}
use Rattle.serde_json.specs.View.{view}
use Rattle.cq_request.specs.Conditions.{condition_of}
use Rattle.cq_request.proofs.condition.conditions_in.Given as goal

abbrev pub invariant-loop-value : goal.invariant-loop-value
invariant-loop-value l = l.found.items ≡ filter_map (λ v. condition_of (view v)) (take l.value-index l.values)
