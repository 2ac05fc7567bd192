use Rattle.std.proofs.Common.{◌≤◌, ◌+◌, length, take}
use Rattle.cq_shard.proofs.Alike.{IsBehind}
use Rattle.cq_shard.proofs.Closing.{IsClosing}
use Rattle.cq_shard.proofs.puts.close_up.Given as goal

abbrev pub invariant-going : goal.invariant-going
invariant-going l = record {
  closing : IsClosing l.fn.changes.items l.keep l.changes.items l.gone l.at;
  behind : IsBehind (take (length l.keep + l.number) l.fn.changes.items) l.keep l.gone l.at;
  sized : length l.changes.items ≤ length l.sizes.items;
}
