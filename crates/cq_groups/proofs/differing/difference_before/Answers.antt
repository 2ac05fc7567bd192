use Rattle.std.proofs.Common.{arith, ◌∙◌}
use Rattle.std.specs.Prelude.{option_map}
use Rattle.cq_tokens.specs.Packed.{norm_in}
use Rattle.cq_groups.proofs.OneStep.{there}
use Rattle.cq_groups.proofs.differing.difference_before.Goals as goal

pub returns-clause-one : goal.returns-clause-one
returns-clause-one g c =
    let some = c.loop-i.invariant.1 (omega (arith, c.loop-i-test.false, c.requires.several)) in
    let (t, is) = there (option_map norm_in c.token_before-first.result) some in
    (t, λ k d lt. c.loop-i.invariant.0 k d (omega (arith, lt, c.loop-i-test.false)) ∙ is)
