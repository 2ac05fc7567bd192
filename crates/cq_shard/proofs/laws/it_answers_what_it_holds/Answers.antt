use Rattle.cq_shard.proofs.Standing.{bucket_holds}
use Rattle.cq_shard.specs.Shard.{HasWindow}
use Rattle.cq_shard.proofs.laws.it_answers_what_it_holds.Goals as goal

pub returns : goal.returns
returns g c settings = bucket_holds (HasWindow g.W.Indexed.keys_in g.W.Indexed.IsWorkOf settings)
