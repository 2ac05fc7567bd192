use Rattle.cq_shard.proofs.ShardLaws.{shard_stays}
use Rattle.cq_shard.specs.Shard.{HasWindow}
use Rattle.cq_shard.proofs.laws.shards_stay.Goals as goal

pub returns : goal.returns
returns g c settings = shard_stays (HasWindow g.W.Indexed.keys_in g.W.Indexed.IsWorkOf settings)
