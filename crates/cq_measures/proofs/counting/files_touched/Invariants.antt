use Rattle.std.proofs.Common.{drop}
use Rattle.cq_measures.proofs.Counted.{AreFilesCounted}
use Rattle.cq_measures.proofs.counting.files_touched.Given as goal

abbrev pub invariant-loop-extent : goal.invariant-loop-extent
invariant-loop-extent l = AreFilesCounted l.extents (drop l.extent-index l.extents) l.next l.files
