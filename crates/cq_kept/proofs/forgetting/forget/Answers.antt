use Rattle.std.proofs.Common.{zero-add, true≢false, ◌≤◌, refl, sym, subst, arith}
use Rattle.std.specs.Prelude.{IsSome}
use Rattle.std.specs.BTreeMap.{keys}
use Rattle.std.specs.List.Sorted.{IsStrictlyIncreasing}
use Rattle.std.proofs.lemmas.List.Kept.{IsStrictlyIncreasing-filter}
use Rattle.cq_kept.specs.Accepted.{text_in}
use Rattle.cq_kept.proofs.Letting.{forgetting_first, forgetting_more, forgetting_last, late_all, none_behind, popped_first}
use Rattle.cq_kept.proofs.forgetting.forget.Goals as goal

pub over-init : goal.over-init
over-init g c = record { notes = forgetting_first c.args.over.now.items c.args.floor (keys c.args.kept.now); rising = c.requires.rising; same = λ e there. there; bytes = zero-add (text_in c.args.kept.now) }

pub over-preserved : goal.over-preserved
over-preserved g c =
    let inv = c.over.invariant in
    let x = c.in-Some.first.now in
    let taken = c.take_out-taken.ensures in
    let low : x.by ≤ c.args.floor = (let no = c.if-floor-first.false in omega (arith, no)) in
    record {
      notes = forgetting_more c.args.over.now.items c.over.over.items c.args.floor (keys c.args.kept.now) (keys c.over.kept) inv.notes x c.pop_front.new.self.items (keys c.take_out-taken.new.kept)
          (popped_first c.over.over.items x c.pop_front.new.self.items c.in-Some.ensures.lookup (omega (arith, c.in-Some.ensures.variant.0 refl)) c.pop_front.ensures.rest) low taken.numbers;
      rising = subst IsStrictlyIncreasing (sym taken.numbers) (IsStrictlyIncreasing-filter _ (keys c.over.kept) inv.rising);
      same = λ e there. inv.same e (taken.same e there);
      bytes = omega (arith, inv.bytes, taken.bytes);
    }

pub returns-then-floor-first-clause-over : goal.returns-then-floor-first-clause-over
returns-then-floor-first-clause-over g c =
    let inv = c.over.invariant in
    (forgetting_last c.args.over.now.items c.over.over.items c.args.floor (keys c.args.kept.now) (keys c.over.kept) inv.notes
    (late_all c.args.over.now.items c.over.over.items c.args.floor (keys c.args.kept.now) (keys c.over.kept) c.requires.order inv.notes c.in-Some.first.now c.in-Some.ensures.lookup (omega (arith, c.in-Some.ensures.variant.0 refl)) c.if-floor-first.true)).0

pub returns-then-floor-first-clause-numbers : goal.returns-then-floor-first-clause-numbers
returns-then-floor-first-clause-numbers g c =
    let inv = c.over.invariant in
    (forgetting_last c.args.over.now.items c.over.over.items c.args.floor (keys c.args.kept.now) (keys c.over.kept) inv.notes
    (late_all c.args.over.now.items c.over.over.items c.args.floor (keys c.args.kept.now) (keys c.over.kept) c.requires.order inv.notes c.in-Some.first.now c.in-Some.ensures.lookup (omega (arith, c.in-Some.ensures.variant.0 refl)) c.if-floor-first.true)).1

pub returns-clause-over : goal.returns-clause-over
returns-clause-over g c =
    let inv = c.over.invariant in
    (forgetting_last c.args.over.now.items c.over.over.items c.args.floor (keys c.args.kept.now) (keys c.over.kept) inv.notes (none_behind c.over.over.items c.args.floor (λ some. true≢false (sym (subst IsSome c.in_default.is (c.front.ensures.variant.1 (omega (arith, some)))))))).0

pub returns-clause-numbers : goal.returns-clause-numbers
returns-clause-numbers g c =
    let inv = c.over.invariant in
    (forgetting_last c.args.over.now.items c.over.over.items c.args.floor (keys c.args.kept.now) (keys c.over.kept) inv.notes (none_behind c.over.over.items c.args.floor (λ some. true≢false (sym (subst IsSome c.in_default.is (c.front.ensures.variant.1 (omega (arith, some)))))))).1
