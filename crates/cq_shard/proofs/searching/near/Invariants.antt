use Rattle.cq_shard.specs.Runs.{IsNear}
use Rattle.cq_shard.proofs.searching.near.Given as goal

abbrev pub invariant-steps : goal.invariant-steps
invariant-steps l = IsNear l.rows l.key l.from l.to
