use Rattle.std.proofs.Common.{take}
use Rattle.cq_base.specs.Measures.{measure_of}
use Rattle.cq_base.specs.Tables.{metric_name}
use Rattle.cq_reply.specs.Added.{AddsMembers}
use Rattle.cq_reply.specs.Written.{count}
use Rattle.cq_reply.proofs.measures.write_metrics.Given as goal

abbrev pub invariant-loop-metric : goal.invariant-loop-metric
invariant-loop-metric l = AddsMembers metric_name (λ k. count (measure_of k l.measures)) (take l.metric-index l.metrics) l.initial.out l.out
