use Rattle.std.proofs.Common.{Option, Some, option_map, ap, sym, ◌∙◌}
use Rattle.serde_json.specs.Data.{Num, number}
use Rattle.cq_request.proofs.numbers.number_value.Goals as goal

pub returns-in-Some-clause-value : goal.returns-in-Some-clause-value
returns-in-Some-clause-value c = ap (λ (o : Option Num). option_map number o) c.in-Some.ensures ∙ ap Some (sym c.from.ensures)
