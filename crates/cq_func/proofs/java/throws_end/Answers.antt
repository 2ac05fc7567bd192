use Rattle.std.proofs.Common.{length, arith, rules}
use Rattle.cq_func.specs.Names.{ends_throws}
use Rattle.cq_func.proofs.Least.{place_above-is}
use Rattle.cq_func.proofs.java.throws_end.Goals as goal

pub returns-then-ends_throws-clause-is : goal.returns-then-ends_throws-clause-is
returns-then-ends_throws-clause-is c =
    place_above-is (ends_throws c.args.tokens.now) c.args.at (length c.args.tokens.now) _ c.requires (omega arith) (omega arith) c.loop-end.invariant (λ within. search rules)

pub returns-clause-is : goal.returns-clause-is
returns-clause-is c =
    place_above-is (ends_throws c.args.tokens.now) c.args.at (length c.args.tokens.now) _ c.requires (omega arith) (omega arith)
    (λ j low high. c.loop-end.invariant j low (omega arith)) (λ within. absurd (omega arith))
