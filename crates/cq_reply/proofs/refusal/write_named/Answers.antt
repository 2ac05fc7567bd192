use Rattle.std.proofs.Common.{refl, ap}
use Rattle.serde_json.specs.Data.{string}
use Rattle.cq_reply.proofs.Adding.{wrote, then, at_last, same_member}
use Rattle.cq_reply.proofs.Read.{object_read}
use Rattle.cq_reply.proofs.refusal.write_named.Goals as goal

pub returns : goal.returns
returns c =
    at_last _ c.end_object.result (then (then (then (then (wrote c.in_ok-begin_object.ensures) c.in_ok-write_number.ensures.adds) c.in_ok-write_string.ensures.adds) (same_member (ap string c.as_bytes.ensures) c.in_ok-write_text.ensures).adds) c.in_ok-write_flag.ensures.adds) c.end_object.ensures (λ added. record {
      adds = added;
      reads = object_read _ (c.in_ok-write_number.ensures.reads, (c.in_ok-write_string.ensures.reads, ((same_member (ap string c.as_bytes.ensures) c.in_ok-write_text.ensures).reads, (c.in_ok-write_flag.ensures.reads, tt)))) refl;
    })
