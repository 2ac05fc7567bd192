use Rattle.std.proofs.Common.{◌≡◌, ◌++◌, length, take}
use Rattle.std.specs.Int.{w32, to_be_bytes}
use Rattle.std.specs.List.{flat_map}
use Rattle.cq_tokform.specs.Spelling.{token}
use Rattle.cq_tokfile.specs.Snapshot.{spelled_of}
use Rattle.cq_tokfile.proofs.encoding.put_spelled.Given as goal

abbrev pub invariant-loop-i : goal.invariant-loop-i
invariant-loop-i g l = l.out.items ≡ (l.fn.out.items ++ to_be_bytes w32 (length l.tokens)) ++ flat_map token (take l.i (spelled_of l.spans l.tokens))
