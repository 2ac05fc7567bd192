use Rattle.std.proofs.Common.{◌∙◌, ap, map}
use Rattle.serde_json.specs.View.{view}
use Rattle.cq_request.specs.Conditions.{are_conditions}
use Rattle.cq_request.proofs.Listed.{list_tested}
use Rattle.cq_request.proofs.condition.is_condition_list.Goals as goal

pub returns-in-Some : goal.returns-in-Some
returns-in-Some c = c.are_all_conditions.ensures ∙ ap (λ vs. are_conditions (map view vs)) c.deref.ensures.value ∙ list_tested _ c.in-Some.values.now.items c.in-Some.ensures
