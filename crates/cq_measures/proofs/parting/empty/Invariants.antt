use Rattle.std.proofs.Common.{◌≡◌, [], map, replicate}
use Rattle.cq_measures.proofs.parting.empty.Given as goal

abbrev pub invariant-loop-file : goal.invariant-loop-file
invariant-loop-file l = map (λ part. part.items) l.parts.items ≡ replicate l._file []
