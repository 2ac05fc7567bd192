use Rattle.std.proofs.Common.{refl, rules}
use Rattle.cq_scope.specs.Rows.{spread}
use Rattle.cq_scope.proofs.InRow.{spread_next, filled}
use Rattle.cq_scope.proofs.row.spread.Goals as goal

pub loop-i-preserved : goal.loop-i-preserved
loop-i-preserved c = spread_next c.loop-i.row _ c.loop-i.i c.loop-i.is_set _ (search rules) (search rules) c.loop-i.invariant

pub returns : goal.returns
returns c = filled (spread c.loop-i.is_set) c.loop-i.row _ c.loop-i.i refl (search rules) c.loop-i.invariant
