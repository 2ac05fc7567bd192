use Rattle.std.proofs.Common.{◌∙◌, ℕ, refl, sym, subst}
use Rattle.cq_io.specs.Causes.{Rose}
use Rattle.cq_lines.proofs.Whole.{fewer}
use Rattle.cq_log.proofs.Running.{none_taken, one_taken, line_refused, line_too_long, at_end, at_limit, at_fault}
use Rattle.cq_log.proofs.taking.take_log.Goals as goal

pub lines-init : goal.lines-init
lines-init g c = record {
  goes = none_taken g.T.Taker.Has c.args.settings.now (g.S.Source.rest c.args.source.now) c.args.lines.now c.args.taker.now c.requires.fresh c.requires.limit c.requires.nothing;
  ready = c.requires.ready;
  target = refl;
  faults = refl;
  unclosed = sym c.requires.fresh.over;
}

pub returns-in-End-clause-takes : goal.returns-in-End-clause-takes
returns-in-End-clause-takes g c = at_end g.T.Taker.Has c.args.settings.now _ _ _ _ _ _ _ c.lines.invariant.goes _ c.lines.invariant.unclosed (rw c.in-End.is at c.next.follows.holds-at-none)

pub returns-in-Spent-clause-takes : goal.returns-in-Spent-clause-takes
returns-in-Spent-clause-takes g c = at_limit g.T.Taker.Has c.args.settings.now _ _ _ _ _ _ _ c.lines.invariant.goes (rw c.in-Spent.is at c.next.follows.holds-at-none)

pub returns-in-ReadFault-clause-takes : goal.returns-in-ReadFault-clause-takes
returns-in-ReadFault-clause-takes g c = at_fault g.T.Taker.Has c.args.settings.now _ _ _ _ _ _ _ c.lines.invariant.goes (rw c.in-ReadFault.is at c.next.follows.holds-at-none)

pub returns-in-ReadFault-clause-cause : goal.returns-in-ReadFault-clause-cause
returns-in-ReadFault-clause-cause g c = subst (λ (n : ℕ). Rose n (g.S.Source.faults c.next.new.source)) c.lines.invariant.faults c.in-ReadFault.ensures.cause.1

pub returns-in-TooLong-clause-takes : goal.returns-in-TooLong-clause-takes
returns-in-TooLong-clause-takes g c =
    let cuts = rw c.in-TooLong.is at c.next.follows.holds-at-none in
    let so = c.lines.invariant.goes in
    line_too_long g.T.Taker.Has c.args.settings.now _ _ _ _ _ _ _ cuts.got cuts.finds.0 so cuts.bytes cuts.taken cuts.within cuts.limit (λ e. (cuts.stays e).0) cuts.finds.2 cuts.finds.1

pub returns-in-Ok-None-clause-takes : goal.returns-in-Ok-None-clause-takes
returns-in-Ok-None-clause-takes g c =
    let cuts = rw c.in-Line.is at c.next.follows.holds-at-none in
    let so = c.lines.invariant.goes in
    line_refused g.T.Taker.Has c.args.settings.now _ _ _ _ _ _ _ cuts.got c.in-Line.line.now so cuts.bytes cuts.taken cuts.within cuts.limit (λ e. (cuts.stays e).0) cuts.finds.1 _ (rw c.in-Ok-None.field-0-is at c.in-Ok-None.ensures.takes)

pub returns-in-Ok-None-clause-target : goal.returns-in-Ok-None-clause-target
returns-in-Ok-None-clause-target g c = c.in-Ok-None.ensures.target ∙ c.lines.invariant.target

pub lines-smaller : goal.lines-smaller
lines-smaller g c =
    let cuts = rw c.in-Line.is at c.next.follows.holds-at-none in
    fewer _ c.lines.lines c.next.follows.lender-at-none _ _ cuts.taken cuts.within cuts.limit cuts.finds.1

pub lines-preserved : goal.lines-preserved
lines-preserved g c =
    let cuts = rw c.in-Line.is at c.next.follows.holds-at-none in
    record {
      goes =
          one_taken g.T.Taker.Has c.args.settings.now _ _ _ _ _ _ _ cuts.got c.in-Line.line.now c.lines.invariant.goes cuts.bytes cuts.taken cuts.within cuts.limit (λ e. (cuts.stays e).0) cuts.finds.1 c.take_line.new.taker c.in-Ok-Some.now
          (rw c.in-Ok-Some.field-0-is at c.in-Ok-Some.ensures.takes);
      ready = c.in-Ok-Some.ensures.ready;
      target = c.in-Ok-Some.ensures.target ∙ c.lines.invariant.target;
      faults = c.in-Line.ensures.cause ∙ c.lines.invariant.faults;
      unclosed = c.is_over-unclosed.ensures;
    }
