use Rattle.std.proofs.Common.{◌≡◌, ◌∙◌, take, refl, ap, arith}
use Rattle.std.proofs.lemmas.List.{take_all, get_or_default}
use Rattle.cq_base.specs.Measures.{measure_of}
use Rattle.cq_base.specs.Tables.{metric_name, metrics}
use Rattle.cq_base.specs.declared.measures.Metric.{Metric}
use Rattle.cq_reply.specs.Written.{count, measure_members}
use Rattle.cq_reply.proofs.Adding.{wrote, then, at_last, as_member, members_none, members_more, all_members}
use Rattle.cq_reply.proofs.Read.{object_read}
use Rattle.cq_reply.proofs.measures.write_metrics.Goals as goal

pub loop-metric-init : goal.loop-metric-init
loop-metric-init c = members_none metric_name (λ (k : Metric). count (measure_of k c.args.measures.now)) _

pub loop-metric-preserved : goal.loop-metric-preserved
loop-metric-preserved c =
    let within = c.loop-metric-test.true in
    members_more metric_name (λ (k : Metric). count (measure_of k c.args.measures.now)) c.all-metrics.result.now c.loop-metric.metric-index _ within
    (get_or_default c.all-metrics.result.now c.loop-metric.metric-index _ _ within) c.loop-metric.invariant
    (as_member c.name.ensures (ap count c.get.ensures) c.in_ok-write_number.ensures)

pub returns : goal.returns
returns c =
    let m = c.args.measures.now in
    let whole : take c.loop-metric.metric-index c.all-metrics.result.now ≡ metrics = take_all c.loop-metric.metric-index c.all-metrics.result.now (omega arith) ∙ c.all-metrics.ensures in
    let each = all_members metric_name (λ (k : Metric). count (measure_of k m)) metrics _ whole c.loop-metric.invariant in
    at_last _ c.end_object.result (then (wrote c.in_ok-begin_object.ensures) each.adds) c.end_object.ensures (λ added. record {
      adds = added;
      reads = object_read (measure_members m metrics) each.reads refl;
    })
