use Rattle.std.proofs.Common.{ℕ, ◌<◌}
use Rattle.cq_clones.specs.Groups.{token_behind, AreSame}
use Rattle.cq_tokens.specs.Parts.{tokens_in}
use Rattle.cq_scan.proofs.corpus.stands_at.Given as goal

abbrev pub invariant-loop-k : goal.invariant-loop-k
invariant-loop-k g l = (k : ℕ) → k < l.k → AreSame (token_behind (tokens_in l.files) l.p k) (token_behind (tokens_in l.files) l.q k)
