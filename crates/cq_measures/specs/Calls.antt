-- What calls ask and promise of files as they are lent, and of tallies.
use Rattle.std.specs.Prelude.{◌≡◌, ℕ, List, length}
use Rattle.cq_base.specs.declared.group.Group.{Group}
use Rattle.cq_base.specs.declared.measures.FileCounts.{FileCounts}
use Rattle.cq_base.specs.declared.measures.Measures.{Measures}
use Rattle.cq_measures.specs.declared.counting.Tally.{Tally}
use Rattle.cq_measures.specs.declared.extent.Extent.{Extent}
use Rattle.cq_measures.specs.declared.extent.FileLines.{FileLines}
use Rattle.cq_measures.specs.Counts.{IsTallyOf}
use Rattle.cq_measures.specs.Measures.{IsMeasurable, counts_of, measures_of, spans_of}
use Rattle.cq_measures.specs.Parted.{AreTallies}
use Rattle.cq_measures.specs.Sorted.{AreBelow}

-- the files can be measured with these groups
abbrev pub AreMeasurable : List FileLines → List Group → Type 0
AreMeasurable files groups = IsMeasurable (counts_of files) (spans_of files) groups

-- of whichever extents this is the tally, they are the measures of so many files with these counts
abbrev pub AreMeasuresBy : ℕ → FileCounts → Tally → Measures → Type 0
AreMeasuresBy files counts tally m = (extents : List Extent) → IsTallyOf extents tally → m ≡ measures_of files counts extents

-- of whichever extents these are the tallies, file by file, it is the tally
abbrev pub IsSumOf : List Tally → Tally → Type 0
IsSumOf tallies t = (extents : List Extent) → AreBelow (length tallies) extents → AreTallies extents tallies → IsTallyOf extents t
