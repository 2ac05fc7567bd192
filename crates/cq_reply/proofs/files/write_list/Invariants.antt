use Rattle.std.proofs.Common.{take}
use Rattle.cq_reply.specs.Added.{AddsEach}
use Rattle.cq_reply.specs.Written.{file_data}
use Rattle.cq_reply.proofs.files.write_list.Given as goal

abbrev pub invariant-loop-row : goal.invariant-loop-row
invariant-loop-row l = AddsEach file_data (take l.row-index l.rows) l.initial.out l.out
