use Rattle.cq_history.proofs.Falling.{stays_reached}
use Rattle.cq_history.proofs.laws.shards_stay_reached.Goals as goal

pub returns : goal.returns
returns c = stays_reached
