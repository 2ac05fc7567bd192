use Rattle.std.proofs.Common.{◌≤◌}
use Rattle.cq_export.specs.Boards.{GoesOn}
use Rattle.cq_export.proofs.working.make_all.Given as goal
use Rattle.cq_history.specs.State.{ready}

abbrev pub invariant-changes : goal.invariant-changes
invariant-changes g l = record {
  goes : GoesOn l.keyer.settings l.initial.board l.board;
  made : l.i ≤ ready l.board.state;
}
