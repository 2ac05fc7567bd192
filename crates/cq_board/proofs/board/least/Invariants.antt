use Rattle.std.proofs.Common.{◌≡◌, drop, fold}
use Rattle.cq_board.specs.Answers.{lower}
use Rattle.cq_board.proofs.board.least.Given as goal

-- the views that are left lower it to the end
abbrev pub invariant-loop-view : goal.invariant-loop-view
invariant-loop-view l = fold lower l.least (drop l.view-index l.views) ≡ fold lower l.version l.views
