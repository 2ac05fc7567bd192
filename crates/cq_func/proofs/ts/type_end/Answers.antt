use Rattle.std.proofs.Common.{length, arith, rules}
use Rattle.cq_func.specs.Names.{ends_type}
use Rattle.cq_func.proofs.Least.{place_above-is}
use Rattle.cq_func.proofs.ts.type_end.Goals as goal

pub returns-then-ends_type-clause-is : goal.returns-then-ends_type-clause-is
returns-then-ends_type-clause-is c =
    place_above-is (ends_type c.args.which c.args.tokens.now) c.args.at (length c.args.tokens.now) _ c.requires (omega arith) (omega arith) c.loop-end.invariant (λ within. search rules)

pub returns-clause-is : goal.returns-clause-is
returns-clause-is c =
    place_above-is (ends_type c.args.which c.args.tokens.now) c.args.at (length c.args.tokens.now) _ c.requires (omega arith) (omega arith)
    (λ j low high. c.loop-end.invariant j low (omega arith)) (λ within. absurd (omega arith))
