use Rattle.std.proofs.Common.{◌≡◌, drop}
use Rattle.cq_base.specs.Tables.{metric_code, with_code}
use Rattle.cq_base.proofs.measures.first_coded.Given as goal

abbrev pub invariant-loop-metric : goal.invariant-loop-metric
invariant-loop-metric l = with_code metric_code (drop l.metric-index l.metrics) l.code ≡ with_code metric_code l.metrics l.code
