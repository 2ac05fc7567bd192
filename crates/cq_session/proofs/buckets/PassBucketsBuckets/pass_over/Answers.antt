use Rattle.std.proofs.Common.{refl, arith}
use Rattle.cq_hub.specs.Hubs.{Never}
use Rattle.cq_hub.proofs.Growing.{grows_none}
use Rattle.cq_session.proofs.buckets.PassBucketsBuckets.pass_over.Goals as goal

pub returns-clause-ready : goal.returns-clause-ready
returns-clause-ready g c = let r = c.requires in record {
  caller = r.caller;
  seen = r.seen;
  stands = c.count_reads.ensures.stands r.caller r.seen r.stands;
  opened = r.opened;
  project = r.project;
  files_are = r.files_are;
}

pub returns-clause-moved : goal.returns-clause-moved
returns-clause-moved g c = record {
  same_hub = refl;
  same_view = refl;
  same_pass = refl;
  moves = λ by h stands opened. record { after = h; grows = grows_none g.H.Hub.alone by Never h; stands = c.count_reads.ensures.stands by h stands; opened = opened };
  no_fewer = let e = c.count_reads.ensures.asked in omega (arith, e);
}
