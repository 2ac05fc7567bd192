use Rattle.cq_clones.proofs.Reading.{shows_its_tokens}
use Rattle.cq_clones.proofs.laws.shows_its_tokens.Goals as goal

pub returns : goal.returns
returns c = shows_its_tokens
