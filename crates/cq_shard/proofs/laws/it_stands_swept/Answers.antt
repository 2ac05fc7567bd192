use Rattle.cq_shard.proofs.Sweeping.{stands_swept}
use Rattle.cq_shard.specs.Shard.{HasWindow}
use Rattle.cq_shard.proofs.laws.it_stands_swept.Goals as goal

pub returns : goal.returns
returns g c settings = stands_swept (HasWindow g.W.Indexed.keys_in g.W.Indexed.IsWorkOf settings)
