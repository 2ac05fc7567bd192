use Rattle.std.proofs.Common.{◌≡◌, take}
use Rattle.cq_tokfile.specs.Snapshot.{capped, functions_length}
use Rattle.cq_tokfile.proofs.lengths.functions_length.Given as goal

abbrev pub invariant-loop-function : goal.invariant-loop-function
invariant-loop-function l = l.count ≡ capped (functions_length (take l.function-index l.functions))
