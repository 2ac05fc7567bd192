use Rattle.std.proofs.Common.{◌≤◌, ◌-◌, length}
use Rattle.cq_munch.specs.Feeds.{IsCounted}
use Rattle.cq_munch.proofs.lines.feed_further.Given as goal

abbrev pub invariant-loop-at : goal.invariant-loop-at
invariant-loop-at l = record {
  counted : IsCounted l.text l.from (record { at = l.at; line = l.line });
  ordered : l.from ≤ l.fn.to;
}

abbrev pub decreases-loop-at : goal.decreases-loop-at
decreases-loop-at l = length l.text - l.at
