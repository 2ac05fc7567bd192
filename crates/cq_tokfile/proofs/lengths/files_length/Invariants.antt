use Rattle.std.proofs.Common.{◌≡◌, take}
use Rattle.cq_tokfile.specs.Snapshot.{capped, files_length}
use Rattle.cq_tokfile.proofs.lengths.files_length.Given as goal

abbrev pub invariant-loop-i : goal.invariant-loop-i
invariant-loop-i g l = l.count ≡ capped (files_length (take l.i l.files))
