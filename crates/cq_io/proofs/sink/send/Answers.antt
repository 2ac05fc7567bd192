use Rattle.std.proofs.Common.{◌∙◌}
use Rattle.cq_io.proofs.Sent.{sent_more}
use Rattle.cq_io.proofs.sink.send.Goals as goal

pub rest-preserved : goal.rest-preserved
rest-preserved g c = record {
  sent = sent_more _ _ _ c.rest.rest.now _ c.in_ok-count.count c.rest.invariant.sent c.in_ok-count.ensures.within c.in_ok-count.ensures.bytes;
  faults = c.in_ok-count.ensures.cause.kept ∙ c.rest.invariant.faults;
}
