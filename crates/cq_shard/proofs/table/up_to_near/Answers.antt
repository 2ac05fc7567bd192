use Rattle.cq_shard.proofs.TakingOut.{near_is}
use Rattle.cq_shard.proofs.table.up_to_near.Goals as goal

pub returns-then-numbers-place-clause-up_to : goal.returns-then-numbers-place-clause-up_to
returns-then-numbers-place-clause-up_to c = near_is c.args.numbers.now c.args.place c.args.last c.requires.some c.if-place-numbers.true c.requires.rising c.if-numbers-place.true
