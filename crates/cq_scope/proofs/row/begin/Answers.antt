use Rattle.std.proofs.Common.{refl, rules}
use Rattle.cq_scope.specs.Rows.{begun}
use Rattle.cq_scope.proofs.InRow.{begun_next, filled}
use Rattle.cq_scope.proofs.row.begin.Goals as goal

pub loop-i-preserved : goal.loop-i-preserved
loop-i-preserved c = begun_next c.loop-i.row _ c.loop-i.i c.loop-i.is_set (search rules) c.loop-i.invariant

pub returns : goal.returns
returns c = filled (begun c.loop-i.is_set) c.loop-i.row _ c.loop-i.i refl (search rules) c.loop-i.invariant
