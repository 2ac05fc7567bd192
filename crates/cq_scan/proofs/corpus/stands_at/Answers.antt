use Rattle.std.proofs.Common.{arith, true≢false, sym, refl}
use Rattle.std.proofs.lemmas.Bool.{iff_false}
use Rattle.cq_tokens.specs.Parts.{tokens_in}
use Rattle.cq_scan.proofs.Matching.{stands_from_tokens, stands_not}
use Rattle.cq_scan.proofs.corpus.stands_at.Goals as goal

pub returns-then-not-are_same : goal.returns-then-not-are_same
returns-then-not-are_same g c =
    (λ no. absurd (true≢false (sym no)), λ stands. absurd (stands_not (tokens_in c.args.files.now) c.args.p c.args.q c.args.n c.loop-k.k c.requires.within (omega arith) (omega arith) (iff_false c.are_same.ensures c.if-not-are_same.true) stands))

pub returns : goal.returns
returns g c =
    (λ yes. stands_from_tokens (tokens_in c.args.files.now) c.args.p c.args.q c.args.n c.requires.within (omega arith) (λ k lt. c.loop-k.invariant k (omega arith)), λ stands. refl)
