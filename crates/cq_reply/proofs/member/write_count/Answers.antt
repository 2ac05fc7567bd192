use Rattle.std.proofs.Common.{arith}
use Rattle.cq_reply.proofs.Adding.{at_once}
use Rattle.cq_reply.proofs.Read.{count_read}
use Rattle.cq_reply.proofs.member.write_count.Goals as goal

pub returns : goal.returns
returns c = at_once _ c.u64.result c.u64.ensures (λ added. record { adds = added; reads = count_read c.args.number (omega arith) })
