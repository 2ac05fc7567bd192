use Rattle.std.proofs.Common.{refl}
use Rattle.cq_reply.proofs.Adding.{wrote, at_last}
use Rattle.cq_reply.proofs.member.write_string.Goals as goal

pub returns : goal.returns
returns c = at_last _ c.string.result (wrote c.in_ok-key.ensures) c.string.ensures (λ added. record { adds = added; reads = refl })
