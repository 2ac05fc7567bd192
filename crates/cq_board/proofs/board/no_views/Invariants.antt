use Rattle.std.proofs.Common.{◌≡◌, replicate, None}
use Rattle.cq_board.proofs.board.no_views.Given as goal

abbrev pub invariant-loop-i : goal.invariant-loop-i
invariant-loop-i l = l.views.items ≡ replicate l._i None
