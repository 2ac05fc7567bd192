use Rattle.std.proofs.Common.{List, ◌∙◌, ap}
use Rattle.cq_base.specs.Tables.{metric_code, with_code}
use Rattle.cq_base.specs.declared.measures.Metric.{Metric}
use Rattle.cq_base.proofs.measures.Metric.of_code.Goals as goal

pub returns : goal.returns
returns c = c.first_coded.ensures ∙ ap (λ (xs : List Metric). with_code metric_code xs c.args.code) c.all.ensures
