use Rattle.std.proofs.Common.{◌≡◌, ◌+◌, ◌≤◌, take}
use Rattle.cq_tokfile.specs.Snapshot.{capped, tokens_length}
use Rattle.cq_tokfile.proofs.lengths.tokens_length.Given as goal

abbrev pub invariant-loop-i : goal.invariant-loop-i
invariant-loop-i g l = (l.count ≡ capped (tokens_length (take l.i l.tokens))) × (l.steps ≤ l.fn.steps + l.i)
