use Rattle.std.proofs.Common.{List, ◌∙◌, ap}
use Rattle.cq_base.specs.Tables.{metric_name, with_name}
use Rattle.cq_base.specs.declared.measures.Metric.{Metric}
use Rattle.cq_base.proofs.measures.Metric.named.Goals as goal

pub returns : goal.returns
returns c = c.first_named.ensures ∙ ap (λ (xs : List Metric). with_name metric_name xs c.args.name.now) c.all.ensures
