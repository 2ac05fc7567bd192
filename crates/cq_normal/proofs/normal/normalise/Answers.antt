use Rattle.std.proofs.Common.{arith, ap, subst, length, List, ◌∙◌}
use Rattle.cq_base.specs.declared.token.Spelled.{Spelled}
use Rattle.cq_normal.specs.Normal.{normal, AreNoLonger}
use Rattle.cq_normal.proofs.Marked.{kept-short, kept-fewer}
use Rattle.cq_normal.proofs.normal.normalise.Goals as goal

pub returns-clause-no_longer : goal.returns-clause-no_longer
returns-clause-no_longer c =
    let left = subst (λ (ts : List Spelled). AreNoLonger ts c.in_ok-norms.norms.items) c.kept-tokens.ensures c.in_ok-norms.ensures.no_longer in
    let short = kept-short c.args.marks.now c.args.tokens.items in
    omega (arith, left, short)

pub returns-clause-no_more : goal.returns-clause-no_more
returns-clause-no_more c =
    let made = ap length (c.in_ok-norms.ensures.normal ∙ ap (normal c.args.settings.now c.args.lang) c.kept-tokens.ensures) in
    let few = kept-fewer c.args.settings.now c.args.lang c.args.marks.now c.args.tokens.items in
    omega (arith, made, few)
