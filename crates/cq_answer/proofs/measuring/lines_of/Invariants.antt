use Rattle.std.proofs.Common.{◌≡◌, take}
use Rattle.cq_measures.specs.Measures.{counts_of, spans_of}
use Rattle.cq_answer.specs.Works.{works_in, spans_in, counts_in}
use Rattle.cq_answer.proofs.measuring.lines_of.Given as goal

abbrev pub invariant-loop-file : goal.invariant-loop-file
invariant-loop-file g l =
    (counts_of l.all.items ≡ counts_in (works_in (take l.file-index l.files)))
    × (spans_of l.all.items ≡ spans_in (works_in (take l.file-index l.files)))
