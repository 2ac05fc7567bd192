use Rattle.cq_shard.proofs.Standing.{first_stands}
use Rattle.cq_shard.specs.Shard.{HasWindow}
use Rattle.cq_shard.proofs.laws.it_stands_at_first.Goals as goal

pub returns : goal.returns
returns g c settings = first_stands (HasWindow g.W.Indexed.keys_in g.W.Indexed.IsWorkOf settings)
