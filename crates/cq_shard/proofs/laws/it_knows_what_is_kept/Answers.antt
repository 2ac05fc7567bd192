use Rattle.cq_shard.proofs.Sweeping.{kept_known}
use Rattle.cq_shard.specs.Shard.{HasWindow}
use Rattle.cq_shard.proofs.laws.it_knows_what_is_kept.Goals as goal

pub returns : goal.returns
returns g c settings = kept_known (HasWindow g.W.Indexed.keys_in g.W.Indexed.IsWorkOf settings)
