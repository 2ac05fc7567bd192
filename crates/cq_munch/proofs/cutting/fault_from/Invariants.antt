use Rattle.std.proofs.Common.{length, ◌-◌}
use Rattle.cq_munch.specs.Characters.{characters}
use Rattle.cq_munch.proofs.Elements.{Gone}
use Rattle.cq_munch.proofs.cutting.fault_from.Given as goal

abbrev pub invariant-loop-at : goal.invariant-loop-at
invariant-loop-at g l = record {
  gone : Gone g.X.Lexis.language l.units l.fn.at l.fn.mode l.at l.mode;
  remembered : g.X.Lexis.is_true_of l.lexis (characters l.units);
}

abbrev pub decreases-loop-at : goal.decreases-loop-at
decreases-loop-at g l = length l.units - l.at
