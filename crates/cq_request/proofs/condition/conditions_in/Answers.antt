use Rattle.std.proofs.Common.{◌≡◌, ◌++◌, [], arith}
use Rattle.std.specs.List.{cons_option}
use Rattle.std.proofs.lemmas.Grind.{common_steps}
use Rattle.serde_json.specs.View.{view}
use Rattle.cq_request.specs.Conditions.{condition_of}
use Rattle.cq_request.proofs.Listed.{one_more_found}
use Rattle.cq_request.proofs.condition.conditions_in.Goals as goal
use Rattle.cq_request.proofs.condition.conditions_in.Goals.{in-Some+in_ok-push, in_default}

pub loop-value-preserved : goal.loop-value-preserved
loop-value-preserved c =
    let grown : c.match-condition_of.found.items ≡ c.loop-value.found.items ++ cons_option (condition_of (view c.value-item.result)) [] =
    elim c.match-condition_of.branch [ in-Some+in_ok-push w ↦ grind (arith, common_steps, w.in_ok-push.ensures.items, w.found-is, w.in-Some.is, c.condition_of.ensures) | in_default w ↦ grind (arith, common_steps, w.found-is, w.in_default.is, c.condition_of.ensures) ] in
    one_more_found (λ v. condition_of (view v)) c.loop-value.found.items c.match-condition_of.found.items c.args.values.now c.loop-value.value-index c.value-item.result c.loop-value-test.true c.value-item.is c.loop-value.invariant grown
