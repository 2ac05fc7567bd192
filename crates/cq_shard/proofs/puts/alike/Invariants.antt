use Rattle.std.proofs.Common.{◌-◌}
use Rattle.cq_shard.proofs.Alike.{IsHalving}
use Rattle.cq_shard.proofs.puts.alike.Given as goal

abbrev pub invariant-halves : goal.invariant-halves
invariant-halves l = IsHalving l.changes l.keep l.gone l.from l.low l.high

abbrev pub decreases-halves : goal.decreases-halves
decreases-halves l = l.high - l.low
