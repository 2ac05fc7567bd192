use Rattle.std.specs.Int.{w64, to_be_bytes}
use Rattle.cq_tokform.proofs.Appended.{three}
use Rattle.cq_tokform.proofs.file.put_counts.Goals as goal

pub returns-clause-written : goal.returns-clause-written
returns-clause-written c = three _ _ _ _ (to_be_bytes w64 c.args.counts.lines) (to_be_bytes w64 c.args.counts.ncloc) (to_be_bytes w64 c.args.counts.complexity) c.in_ok-put_u64.ensures.written c.in_ok-put_u64-2.ensures.written c.in_ok-put_u64-3.ensures.written
