use Rattle.std.proofs.Common.{◌≡◌, arith, sym, subst}
use Rattle.std.proofs.lemmas.Grind.{common_steps}
use Rattle.cq_normal.specs.Normal.{normal, AreNoLonger}
use Rattle.cq_normal.proofs.Sizes.{normal-short}
use Rattle.cq_normal.proofs.normal.norms_of.Goals as goal

pub returns-clause-no_longer : goal.returns-clause-no_longer
returns-clause-no_longer c =
    let made : c.loop-spelled.norms.items ≡ normal c.args.settings.now c.args.lang c.args.tokens.items = grind (arith, common_steps) in
    subst (AreNoLonger c.args.tokens.items) (sym made) (normal-short c.args.settings.now c.args.lang c.args.tokens.items)
