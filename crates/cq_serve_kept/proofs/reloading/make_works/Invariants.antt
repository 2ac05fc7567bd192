use Rattle.cq_serve_kept.specs.Reloads.{MayReload, StaysTaken}
use Rattle.cq_serve_kept.proofs.reloading.make_works.Given as goal

abbrev pub invariant-works : goal.invariant-works
invariant-works g l = record {
  ready : MayReload l.hub l.keyer.settings l.pass;
  still : StaysTaken l.hub l.fn.pass l.pass;
}
