use Rattle.std.proofs.Common.{◌∙◌, ℕ, refl, subst}
use Rattle.cq_export.proofs.Accepting.{is_caller, long_refused}
use Rattle.cq_export.proofs.Running.{none_taken, one_taken, line_refused, at_end, at_limit, at_fault}
use Rattle.cq_export.proofs.taking.take_changes.Goals as goal
use Rattle.cq_io.specs.Causes.{Rose}
use Rattle.cq_lines.proofs.Whole.{fewer}

pub lines-init : goal.lines-init
lines-init g c = record {
  goes = none_taken c.args.settings.now (g.S.Source.rest c.args.source.now) c.args.lines.now c.args.board.now c.requires.fresh c.requires.limit c.requires.nothing;
  faults = refl;
}

pub take_line-requires-clause-caller : goal.take_line-requires-clause-caller
take_line-requires-clause-caller g c = let so = c.lines.invariant.goes in is_caller c.args.settings.now so.changes c.lines.board so.accepted

pub returns-in-End-clause-takes : goal.returns-in-End-clause-takes
returns-in-End-clause-takes g c = at_end c.args.settings.now _ _ _ _ _ _ c.lines.invariant.goes (rw c.in-End.is at c.next.follows.holds-at-none)

pub returns-in-Spent-clause-takes : goal.returns-in-Spent-clause-takes
returns-in-Spent-clause-takes g c = at_limit c.args.settings.now _ _ _ _ _ _ c.lines.invariant.goes (rw c.in-Spent.is at c.next.follows.holds-at-none)

pub returns-in-ReadFault-clause-takes : goal.returns-in-ReadFault-clause-takes
returns-in-ReadFault-clause-takes g c = at_fault c.args.settings.now _ _ _ _ _ _ c.lines.invariant.goes (rw c.in-ReadFault.is at c.next.follows.holds-at-none)

pub returns-in-ReadFault-clause-cause : goal.returns-in-ReadFault-clause-cause
returns-in-ReadFault-clause-cause g c = subst (λ (n : ℕ). Rose n (g.S.Source.faults c.next.new.source)) c.lines.invariant.faults c.in-ReadFault.ensures.cause.1

pub returns-in-TooLong-clause-takes : goal.returns-in-TooLong-clause-takes
returns-in-TooLong-clause-takes g c =
    let cuts = rw c.in-TooLong.is at c.next.follows.holds-at-none in
    let so = c.lines.invariant.goes in
    line_refused c.args.settings.now _ _ _ _ _ _ cuts.got cuts.finds.0 so cuts.bytes cuts.taken cuts.within cuts.limit (λ e. (cuts.stays e).0) cuts.finds.2 (long_refused c.args.settings.now so.changes cuts.finds.0 cuts.finds.1)

pub returns-in-Ok-false-clause-takes : goal.returns-in-Ok-false-clause-takes
returns-in-Ok-false-clause-takes g c =
    let cuts = rw c.in-Line.is at c.next.follows.holds-at-none in
    let so = c.lines.invariant.goes in
    let takes = rw c.in-Ok-false.field-0-test at c.in-Ok-false.ensures.takes in
    line_refused c.args.settings.now _ _ _ _ _ _ cuts.got c.in-Line.line.now so cuts.bytes cuts.taken cuts.within cuts.limit (λ e. (cuts.stays e).0) cuts.finds.1 (takes so.changes so.accepted)

pub lines-smaller : goal.lines-smaller
lines-smaller g c =
    let cuts = rw c.in-Line.is at c.next.follows.holds-at-none in
    fewer _ c.lines.lines c.next.follows.lender-at-none _ _ cuts.taken cuts.within cuts.limit cuts.finds.1

pub lines-preserved : goal.lines-preserved
lines-preserved g c =
    let cuts = rw c.in-Line.is at c.next.follows.holds-at-none in
    record {
      goes = one_taken c.args.settings.now _ _ _ _ _ _ cuts.got c.in-Line.line.now c.lines.invariant.goes cuts.bytes cuts.taken cuts.within cuts.limit (λ e. (cuts.stays e).0) cuts.finds.1 c.take_line.new.board (rw c.in-Ok-true.field-0-test at c.in-Ok-true.ensures.takes);
      faults = c.in-Line.ensures.cause ∙ c.lines.invariant.faults;
    }
