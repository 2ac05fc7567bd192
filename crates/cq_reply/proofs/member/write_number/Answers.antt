use Rattle.cq_reply.proofs.Adding.{named}
use Rattle.cq_reply.proofs.member.write_number.Goals as goal

pub returns : goal.returns
returns c = named _ _ c.write_count.result c.in_ok-key.ensures c.write_count.ensures
