use Rattle.std.proofs.Common.{refl}
use Rattle.cq_reply.proofs.Adding.{wrote, at_last}
use Rattle.cq_reply.proofs.member.write_flag.Goals as goal

pub returns : goal.returns
returns c = at_last _ c.boolean.result (wrote c.in_ok-key.ensures) c.boolean.ensures (λ added. record { adds = added; reads = refl })
