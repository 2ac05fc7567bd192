use Rattle.std.proofs.Common.{take}
use Rattle.std.specs.Prelude.{All}
use Rattle.cq_shard.specs.Marks.{IsMarked, HasWords}
use Rattle.cq_shard.proofs.marks.Marks.of.Given as goal

-- the bits of those before are set
abbrev pub invariant-loop-row : goal.invariant-loop-row
invariant-loop-row l = record {
  words : HasWords l.marks;
  each : All (λ e. IsMarked l.marks e.key) (take l.row-index l.rows);
}
