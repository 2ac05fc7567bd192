use Rattle.std.proofs.Common.{refl}
use Rattle.cq_reply.proofs.Adding.{wrote, then, at_last}
use Rattle.cq_reply.proofs.Read.{object_read}
use Rattle.cq_reply.proofs.refusal.write_counted.Goals as goal

pub returns : goal.returns
returns c =
    at_last _ c.end_object.result (then (then (then (then (wrote c.in_ok-begin_object.ensures) c.in_ok-write_number.ensures.adds) c.in_ok-write_number-2.ensures.adds) c.in_ok-write_string.ensures.adds) c.in_ok-write_flag.ensures.adds) c.end_object.ensures (λ added. record {
      adds = added;
      reads = object_read _ (c.in_ok-write_number.ensures.reads, (c.in_ok-write_number-2.ensures.reads, (c.in_ok-write_string.ensures.reads, (c.in_ok-write_flag.ensures.reads, tt)))) refl;
    })
