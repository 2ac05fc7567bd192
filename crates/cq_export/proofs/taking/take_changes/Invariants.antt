use Rattle.std.proofs.Common.{◌≡◌, ◌+◌, ◌-◌, length}
use Rattle.cq_export.specs.Lines.{TakenSoFar}
use Rattle.cq_export.proofs.taking.take_changes.Given as goal

abbrev pub invariant-lines : goal.invariant-lines
invariant-lines g l = record {
  goes : TakenSoFar l.settings (g.S.Source.rest l.fn.source) (g.S.Source.rest l.source) l.lines l.board;
  faults : g.S.Source.faults l.source ≡ g.S.Source.faults l.fn.source;
}

abbrev pub decreases-lines : goal.decreases-lines
decreases-lines g l = (l.lines.limit - l.lines.taken) + length l.lines.pending
