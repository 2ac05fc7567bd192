use Rattle.std.proofs.Common.{refl}
use Rattle.std.proofs.lemmas.Result.{on_ok_weaker}
use Rattle.cq_reply.proofs.Adding.{wrote, then}
use Rattle.cq_reply.proofs.Read.{object_read}
use Rattle.cq_reply.proofs.files.write_plain.Goals as goal

pub returns : goal.returns
returns c = on_ok_weaker c.write_members.result (λ f. record {
  adds = then (wrote c.in_ok-begin_object.ensures) f.adds;
  reads = object_read _ (f.change, (refl, (f.lines, (refl, (refl, (f.tokens, tt)))))) refl;
}) c.write_members.ensures
