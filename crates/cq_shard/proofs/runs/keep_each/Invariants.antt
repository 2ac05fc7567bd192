use Rattle.std.proofs.Common.{◌≡◌, ◌++◌, length, take, drop, map}
use Rattle.cq_shard.specs.Stores.{those_of}
use Rattle.cq_shard.proofs.runs.keep_each.Given as goal

abbrev pub invariant-loop-i : goal.invariant-loop-i
invariant-loop-i l = record {
  number : length l.runs.items ≡ length l.fn.runs.items;
  kept : l.runs.items ≡ map (those_of l.changes) (take l.i l.fn.runs.items) ++ drop l.i l.fn.runs.items;
}
