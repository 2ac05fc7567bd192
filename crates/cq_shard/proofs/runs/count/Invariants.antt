use Rattle.std.proofs.Common.{◌≡◌, ◌+◌}
use Rattle.cq_shard.proofs.runs.count.Given as goal

abbrev pub invariant-loop-step : goal.invariant-loop-step
invariant-loop-step g l = l.steps ≡ l.fn.steps + l._step
