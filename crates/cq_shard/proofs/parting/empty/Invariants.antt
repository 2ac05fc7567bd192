use Rattle.std.proofs.Common.{◌≡◌, [], map, replicate}
use Rattle.cq_shard.proofs.parting.empty.Given as goal

abbrev pub invariant-loop-shard : goal.invariant-loop-shard
invariant-loop-shard l = map (λ part. part.items) l.parts.items ≡ replicate l._shard []
