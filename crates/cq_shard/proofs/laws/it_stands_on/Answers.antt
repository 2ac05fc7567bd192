use Rattle.cq_shard.proofs.Standing.{later_stands}
use Rattle.cq_shard.specs.Shard.{HasWindow}
use Rattle.cq_shard.proofs.laws.it_stands_on.Goals as goal

pub returns : goal.returns
returns g c settings = later_stands (HasWindow g.W.Indexed.keys_in g.W.Indexed.IsWorkOf settings)
