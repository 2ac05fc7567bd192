use Rattle.std.proofs.Common.{drop}
use Rattle.cq_measures.proofs.Counted.{IsCounted}
use Rattle.cq_measures.proofs.counting.covered_lines.Given as goal

abbrev pub invariant-loop-extent : goal.invariant-loop-extent
invariant-loop-extent l = IsCounted l.extents (drop l.extent-index l.extents) l.file l.free l.lines
