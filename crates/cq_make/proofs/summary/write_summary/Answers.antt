use Rattle.std.proofs.Common.{refl}
use Rattle.cq_reply.proofs.Adding.{wrote, then, at_last}
use Rattle.cq_reply.proofs.Read.{object_read}
use Rattle.cq_make.proofs.summary.write_summary.Goals as goal

pub returns : goal.returns
returns c =
    let groups = c.in_ok-write_number.ensures in
    let m = c.in_ok-write_metrics.ensures in
    let ok = c.in_ok-write_flag.ensures in
    let tokens = c.in_ok-write_number-2.ensures in
    let version = c.in_ok-write_number-3.ensures in
    at_last _ c.end_object.result (then (then (then (then (then (then (wrote c.in_ok-begin_object.ensures) groups.adds) (wrote c.in_ok-key.ensures)) m.adds) ok.adds) tokens.adds) version.adds) c.end_object.ensures (λ added. record {
      adds = added;
      reads = object_read _ (groups.reads, (m.reads, (ok.reads, (tokens.reads, (version.reads, tt))))) refl;
    })
