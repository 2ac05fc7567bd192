use Rattle.cq_history.proofs.Falling.{never_falls}
use Rattle.cq_history.proofs.laws.nothing_falls.Goals as goal

pub returns : goal.returns
returns c = never_falls
