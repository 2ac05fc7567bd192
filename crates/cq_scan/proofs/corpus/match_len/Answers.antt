use Rattle.std.proofs.Common.{arith}
use Rattle.std.proofs.lemmas.Bool.{iff_false}
use Rattle.cq_tokens.specs.Parts.{tokens_in}
use Rattle.cq_scan.proofs.Matching.{matches_from_tokens, matches_to_end}
use Rattle.cq_scan.proofs.corpus.match_len.Goals as goal

pub returns-then-not-are_same : goal.returns-then-not-are_same
returns-then-not-are_same g c =
    matches_from_tokens (tokens_in c.args.files.now) c.args.p c.args.q c.loop-n.n (omega arith) (omega arith) c.loop-n.invariant (iff_false c.are_same.ensures c.if-not-are_same.true)

pub returns : goal.returns
returns g c =
    matches_to_end (tokens_in c.args.files.now) c.args.p c.args.q c.min-most.result c.requires.p_in c.requires.q_in (omega arith) (λ k lt. c.loop-n.invariant k (omega arith))
