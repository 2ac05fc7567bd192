use Rattle.cq_shard.proofs.ShardLaws.{applied_adds_rows}
use Rattle.cq_shard.specs.Shard.{HasWindow}
use Rattle.cq_shard.proofs.laws.applying_adds_its_rows.Goals as goal

pub returns : goal.returns
returns g c settings = applied_adds_rows (HasWindow g.W.Indexed.keys_in g.W.Indexed.IsWorkOf settings)
