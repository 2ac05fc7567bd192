use Rattle.std.proofs.Common.{◌≡◌, map, take}
use Rattle.cq_measures.specs.Parted.{extent_of_run}
use Rattle.cq_measures.proofs.tallying.extents_of_runs.Given as goal

abbrev pub invariant-loop-run : goal.invariant-loop-run
invariant-loop-run l = l.extents.items ≡ map (extent_of_run l.spans l.file) (take l.run-index l.runs)
