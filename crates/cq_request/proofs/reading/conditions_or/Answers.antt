use Rattle.std.proofs.Common.{◌∙◌, ap}
use Rattle.std.specs.List.{filter_map}
use Rattle.std.proofs.lemmas.Result.{IfOk-weaker}
use Rattle.serde_json.specs.View.{view}
use Rattle.cq_request.specs.Conditions.{condition_of}
use Rattle.cq_request.proofs.Listed.{list_read}
use Rattle.cq_request.proofs.reading.conditions_or.Goals as goal

pub returns-in-Some : goal.returns-in-Some
returns-in-Some c = IfOk-weaker c.conditions_in.result _ _ (λ found is. is ∙ ap (filter_map (λ v. condition_of (view v))) c.deref.ensures.value ∙ list_read condition_of _ c.in-Some.values.now.items c.in-Some.ensures) c.conditions_in.ensures
