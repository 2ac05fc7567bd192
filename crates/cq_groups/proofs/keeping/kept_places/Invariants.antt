use Rattle.std.proofs.Common.{take}
use Rattle.cq_groups.proofs.Kept.{AreKept}
use Rattle.cq_groups.proofs.keeping.kept_places.Given as goal

abbrev pub invariant-loop-row : goal.invariant-loop-row
invariant-loop-row l = AreKept l.tokens (take l.row-index l.rows) l.last l.kept.items
