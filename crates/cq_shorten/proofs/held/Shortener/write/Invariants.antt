use Rattle.std.proofs.Common.{◌≡◌, ◌≤◌, ◌-◌, length}
use Rattle.cq_shorten.specs.Keeping.{SentUpTo}
use Rattle.cq_shorten.proofs.held.Shortener.write.Given as goal

abbrev pub invariant-kept : goal.invariant-kept
invariant-kept g l = record {
  low : l.after ≤ length l.self.changes.slots;
  sent : SentUpTo l.self l.after (g.K.Sink.written l.fn.sink) (g.K.Sink.written l.sink);
  faults : g.K.Sink.faults l.sink ≡ g.K.Sink.faults l.fn.sink;
}

abbrev pub decreases-kept : goal.decreases-kept
decreases-kept g l = length l.self.changes.slots - l.after
