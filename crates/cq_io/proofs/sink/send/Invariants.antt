use Rattle.std.proofs.Common.{◌≡◌, length}
use Rattle.cq_io.specs.Sending.{HasSent}
use Rattle.cq_io.proofs.sink.send.Given as goal

abbrev pub invariant-rest : goal.invariant-rest
invariant-rest g l = record {
  sent : HasSent (g.K.Sink.written l.fn.sink) (g.K.Sink.written l.sink) l.rest l.piece;
  faults : g.K.Sink.faults l.sink ≡ g.K.Sink.faults l.fn.sink;
}

abbrev pub decreases-rest : goal.decreases-rest
decreases-rest g l = length l.rest
