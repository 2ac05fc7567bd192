use Rattle.std.proofs.Common.{length, eqb, ap, ◌∙◌}
use Rattle.cq_func.proofs.Counted.{level-before}
use Rattle.cq_func.proofs.brackets.is_even.Goals as goal

pub returns : goal.returns
returns c =
    ap (λ v. eqb v (length c.args.tokens.now)) (c.requires.counted.each c.args.at c.requires.within)
    ∙ level-before c.args.lang c.args.kind c.args.tokens.now c.args.at c.requires.within
