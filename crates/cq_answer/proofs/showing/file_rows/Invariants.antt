use Rattle.std.proofs.Common.{◌≡◌, map, take}
use Rattle.cq_answer.specs.Works.{works_in, row_of}
use Rattle.cq_answer.proofs.showing.file_rows.Given as goal

abbrev pub invariant-loop-file : goal.invariant-loop-file
invariant-loop-file g l = l.rows.items ≡ map row_of (works_in (take l.file-index l.files))
