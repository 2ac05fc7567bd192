use Rattle.cq_history.proofs.Keeping.{kept_falls}
use Rattle.cq_history.proofs.laws.kept_falls_with_the_floor.Goals as goal

pub returns : goal.returns
returns c = kept_falls
