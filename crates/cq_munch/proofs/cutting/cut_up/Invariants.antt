use Rattle.std.proofs.Common.{length, ◌-◌}
use Rattle.cq_munch.specs.Characters.{characters}
use Rattle.cq_munch.specs.Feeds.{IsCounted}
use Rattle.cq_munch.proofs.Elements.{SoFar}
use Rattle.cq_munch.proofs.cutting.cut_up.Given as goal

abbrev pub invariant-loop-at : goal.invariant-loop-at
invariant-loop-at g l = record {
  so_far : SoFar g.X.Lexis.language l.text l.units l.tokens.items l.marks.items l.at l.mode l.reached.end;
  counted : IsCounted l.text (l.reached.end - 1) l.reached.feed;
  remembered : g.X.Lexis.is_true_of l.lexis (characters l.units);
}

abbrev pub decreases-loop-at : goal.decreases-loop-at
decreases-loop-at g l = length l.units - l.at
