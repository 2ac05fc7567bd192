use Rattle.std.proofs.Common.{◌≡◌}
use Rattle.std.specs.Vec.{vec_len}
use Rattle.cq_tokask.proofs.Coming.{ComesSoFar}
use Rattle.cq_tokask.proofs.taking.take.Given as goal

abbrev pub invariant-pieces : goal.invariant-pieces
invariant-pieces g l = record {
  comes : ComesSoFar (g.S.Source.rest l.fn.source) (g.S.Source.rest l.source) l.fn.out.items l.out.items l.count l.left;
  room : vec_len l.piece ≡ vec_len l.fn.piece;
  faults : g.S.Source.faults l.source ≡ g.S.Source.faults l.fn.source;
}

abbrev pub decreases-pieces : goal.decreases-pieces
decreases-pieces g l = l.left
