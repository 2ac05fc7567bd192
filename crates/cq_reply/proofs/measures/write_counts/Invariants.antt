use Rattle.std.proofs.Common.{take}
use Rattle.cq_reply.specs.Added.{AddsEach}
use Rattle.cq_reply.specs.Written.{count}
use Rattle.cq_reply.proofs.measures.write_counts.Given as goal

abbrev pub invariant-loop-count : goal.invariant-loop-count
invariant-loop-count l = AddsEach count (take l.count-index l.counts) l.initial.out l.out
