use Rattle.std.proofs.Common.{true≢false, sym, ◌∙◌}
use Rattle.cq_groups.proofs.Parting.{parted_none, parted_skip, parted_repeated, parted_lone, parted_repeats, parted_number}
use Rattle.cq_groups.proofs.keys.parted.Goals as goal
use Rattle.cq_groups.proofs.keys.parted.Goals.{then-not-goes_on+then-goes_on+in_ok-push, then-not-goes_on+else-goes_on, else-not-goes_on}

pub loop-at-init : goal.loop-at-init
loop-at-init c = parted_none c.args.keys.now _ c.new-repeated.ensures.items

pub loop-at-preserved : goal.loop-at-preserved
loop-at-preserved c =
    let keys = c.args.keys.now in
    let at = c.loop-at.at in
    let found = c.loop-at.repeated.items in
    elim c.if-not-goes_on.branch [
      | then-not-goes_on+then-goes_on+in_ok-push w ↦ rw (w.repeated-is, w.lone-is, w.in_ok-push.ensures.items)
          (parted_repeated keys at found c.loop-at.lone c.requires c.loop-at-test.true (λ h. true≢false (sym (c.goes_on.ensures.1 h) ∙ w.if-not-goes_on.true)) (w.goes_on-then-not-goes_on.ensures.0 w.if-goes_on.true) c.loop-at.invariant)
      | then-not-goes_on+else-goes_on w ↦ rw (w.repeated-is, w.lone-is)
          (parted_lone keys at found c.loop-at.lone c.requires c.loop-at-test.true (λ h. true≢false (sym (c.goes_on.ensures.1 h) ∙ w.if-not-goes_on.true)) (λ h. true≢false (sym (w.goes_on-then-not-goes_on.ensures.1 h) ∙ w.if-goes_on.false)) c.loop-at.invariant)
      | else-not-goes_on w ↦ rw (w.repeated-is, w.lone-is)
          (parted_skip keys at found c.loop-at.lone c.loop-at-test.true (c.goes_on.ensures.0 w.if-not-goes_on.false) c.loop-at.invariant)
    ]

pub returns-clause-repeated : goal.returns-clause-repeated
returns-clause-repeated c = parted_repeats c.args.keys.now c.loop-at.at c.loop-at-test.false c.loop-at.repeated.items c.loop-at.lone c.loop-at.invariant c.requires

pub returns-clause-number : goal.returns-clause-number
returns-clause-number c = parted_number c.args.keys.now c.loop-at.at c.loop-at-test.false c.loop-at.repeated.items c.loop-at.lone c.loop-at.invariant
