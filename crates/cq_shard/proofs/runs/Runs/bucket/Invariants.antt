use Rattle.std.proofs.Common.{◌≡◌, ◌++◌, drop, filter}
use Rattle.cq_shard.specs.Runs.{entries_in}
use Rattle.cq_shard.specs.Shard.{is_asked}
use Rattle.cq_shard.proofs.runs.Runs.bucket.Given as goal

-- what is left brings the rest
abbrev pub invariant-loop-run : goal.invariant-loop-run
invariant-loop-run l = l.bucket.items ++ filter (is_asked l.key l.live) (entries_in (drop l.run-index l.run-items)) ≡ filter (is_asked l.key l.live) (entries_in l.run-items)
