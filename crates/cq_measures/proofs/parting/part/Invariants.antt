use Rattle.std.proofs.Common.{take, map}
use Rattle.cq_measures.specs.Parted.{AreLonger, group_runs}
use Rattle.cq_measures.proofs.parting.part.Given as goal

abbrev pub invariant-loop-place : goal.invariant-loop-place
invariant-loop-place l = AreLonger (λ i. group_runs i l.group.tokens (take l.place-index l.group.places)) (map (λ part. part.items) l.initial.parts.items) (map (λ part. part.items) l.parts.items)
