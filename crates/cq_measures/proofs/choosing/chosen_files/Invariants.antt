use Rattle.std.proofs.Common.{◌≡◌, take}
use Rattle.cq_measures.specs.Measures as spec
use Rattle.cq_measures.proofs.choosing.chosen_files.Given as goal

abbrev pub invariant-loop-file : goal.invariant-loop-file
invariant-loop-file l = spec.counts_of l.all.items ≡ spec.counts_at (spec.counts_of l.files) (take l.file-index l.chosen)
