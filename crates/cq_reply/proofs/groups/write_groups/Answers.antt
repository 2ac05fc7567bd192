use Rattle.std.proofs.Common.{refl}
use Rattle.cq_reply.proofs.Adding.{then, after_list}
use Rattle.cq_reply.proofs.Read.{object_read}
use Rattle.cq_reply.proofs.groups.write_groups.Goals as goal

pub returns : goal.returns
returns c =
    let list = c.in_ok-write_list.ensures in
    after_list _ c.end_object.result c.in_ok-begin_object.ensures c.in_ok-key.ensures list (then (then c.in_ok-write_flag.ensures.adds c.in_ok-write_number.ensures.adds) c.in_ok-write_number-2.ensures.adds) c.end_object.ensures (λ added. record {
      adds = added;
      reads = object_read _ (list.reads, (c.in_ok-write_flag.ensures.reads, (c.in_ok-write_number.ensures.reads, (c.in_ok-write_number-2.ensures.reads, tt)))) refl;
    })
