use Rattle.std.proofs.Common.{◌≡◌, ◌+◌, ◌++◌, drop}
use Rattle.cq_shard.specs.Shard.{puts_among}
use Rattle.cq_shard.proofs.applying.puts_in.Given as goal

-- what is left brings the rest
abbrev pub invariant-loop-work : goal.invariant-loop-work
invariant-loop-work g l = record {
  change : l.change ≡ l.applied + l.work-index;
  rest : l.puts.items ++ puts_among l.change (drop l.work-index l.works) ≡ puts_among l.applied l.works;
}
