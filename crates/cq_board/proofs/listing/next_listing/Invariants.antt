use Rattle.std.proofs.Common.{◌≤◌, ◌-◌}
use Rattle.cq_board.specs.Turnover.{IsNext}
use Rattle.cq_board.proofs.Skipping.{blanks}
use Rattle.cq_board.proofs.listing.next_listing.Given as goal

abbrev pub invariant-loop-number : goal.invariant-loop-number
invariant-loop-number g l = record {
  order : l.at ≤ l.version;
  next : IsNext (g.W.Indexed.IsWorkOf l.changes.settings) (blanks l.changes l.at) l.fn.live.items l.drafts.items l.turnover.put.items l.turnover.gone.items;
}

abbrev pub decreases-loop-number : goal.decreases-loop-number
decreases-loop-number g l = l.version - l.at
