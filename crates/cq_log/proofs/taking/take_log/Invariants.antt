use Rattle.std.proofs.Common.{◌≡◌, ◌+◌, ◌-◌, length}
use Rattle.cq_log.specs.Takers.{TakenSoFar}
use Rattle.cq_log.proofs.taking.take_log.Given as goal

abbrev pub invariant-lines : goal.invariant-lines
invariant-lines g l = record {
  goes : TakenSoFar g.T.Taker.Has l.settings (g.S.Source.rest l.fn.source) (g.S.Source.rest l.source) l.lines l.torn l.taker;
  ready : g.T.Taker.ready l.taker;
  target : g.T.Taker.target_of l.taker ≡ g.T.Taker.target_of l.fn.taker;
  faults : g.S.Source.faults l.source ≡ g.S.Source.faults l.fn.source;
  unclosed : l.unclosed ≡ l.lines.over;
}

abbrev pub decreases-lines : goal.decreases-lines
decreases-lines g l = (l.lines.limit - l.lines.taken) + length l.lines.pending
