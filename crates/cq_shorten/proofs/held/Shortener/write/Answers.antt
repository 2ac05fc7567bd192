use Rattle.std.proofs.Common.{refl, sym, subst, ◌∙◌, arith}
use Rattle.std.specs.Prelude.{IsNone}
use Rattle.cq_shorten.proofs.Writing.{none_sent, line_sent, line_broken, all_sent, held_within}
use Rattle.cq_shorten.proofs.held.Shortener.write.Goals as goal

pub kept-init : goal.kept-init
kept-init g c = record { low = omega arith; sent = none_sent c.args.self.now (g.K.Sink.written c.args.sink.now); faults = refl }

pub kept-preserved : goal.kept-preserved
kept-preserved g c = record {
  low = held_within c.args.self.now c.in-Some.number c.in-Some.ensures.next.held;
  sent = line_sent c.args.self.now c.kept.after c.in-Some.number _ _ _ c.in-Some.ensures.next c.kept.invariant.sent c.in-Ok.ensures.bytes;
  faults = c.in-Ok.ensures.cause.kept ∙ c.kept.invariant.faults;
}

pub kept-smaller : goal.kept-smaller
kept-smaller g c = omega (arith, held_within c.args.self.now c.in-Some.number c.in-Some.ensures.next.held, c.in-Some.ensures.next.behind)

pub returns-in-Err-clause-bytes : goal.returns-in-Err-clause-bytes
returns-in-Err-clause-bytes g c = line_broken c.args.self.now c.kept.after c.in-Some.number _ _ _ c.in-Some.ensures.next c.kept.invariant.sent c.in-Err.ensures.bytes

pub returns-clause-bytes : goal.returns-clause-bytes
returns-clause-bytes g c = all_sent c.args.self.now c.kept.after _ _ c.kept.invariant.sent (c.next.ensures.none (subst IsNone (sym c.in_default.is) refl))
