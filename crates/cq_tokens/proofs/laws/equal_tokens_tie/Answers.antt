use Rattle.cq_tokens.proofs.Order.{equal_tie}
use Rattle.cq_tokens.proofs.laws.equal_tokens_tie.Goals as goal

pub returns : goal.returns
returns c = equal_tie
