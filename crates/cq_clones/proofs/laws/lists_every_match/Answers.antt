use Rattle.cq_clones.proofs.Reading.{lists_every_match}
use Rattle.cq_clones.proofs.laws.lists_every_match.Goals as goal

pub returns : goal.returns
returns c = lists_every_match
