use Rattle.std.proofs.Common.{◌≡◌, drop}
use Rattle.cq_base.specs.Tables.{metric_name, with_name}
use Rattle.cq_base.proofs.measures.first_named.Given as goal

abbrev pub invariant-loop-metric : goal.invariant-loop-metric
invariant-loop-metric l = with_name metric_name (drop l.metric-index l.metrics) l.name ≡ with_name metric_name l.metrics l.name
