use Rattle.cq_shard.proofs.ShardLaws.{swept_takes_out}
use Rattle.cq_shard.specs.Shard.{HasWindow}
use Rattle.cq_shard.proofs.laws.sweeping_takes_out_alone.Goals as goal

pub returns : goal.returns
returns g c settings = swept_takes_out (HasWindow g.W.Indexed.keys_in g.W.Indexed.IsWorkOf settings)
