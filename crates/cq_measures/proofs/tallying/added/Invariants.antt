use Rattle.std.proofs.Common.{List, ◌≤◌, ◌*◌, ◌^◌}
use Rattle.cq_measures.specs.declared.extent.Extent.{Extent}
use Rattle.cq_measures.specs.Counts.{IsTallyOf}
use Rattle.cq_measures.specs.Parted.{AreTallies}
use Rattle.cq_measures.proofs.Divided.{files_below}
use Rattle.cq_measures.proofs.tallying.added.Given as goal

-- the files so far
abbrev pub invariant-loop-tally : goal.invariant-loop-tally
invariant-loop-tally l = record {
  sums : (extents : List Extent) → AreTallies extents l.tallies → IsTallyOf (files_below l.tally-index extents) l.all;
  lines : l.all.lines ≤ l.tally-index * 2 ^ 32;
  files : l.all.files ≤ l.tally-index;
}
