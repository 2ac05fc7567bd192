use Rattle.std.proofs.Common.{◌≡◌, ◌+◌, length}
use Rattle.std.specs.BTreeMap.{keys}
use Rattle.std.specs.List.Sorted.{IsStrictlyIncreasing}
use Rattle.cq_kept.specs.Accepted.{text_in, IsPartOf}
use Rattle.cq_kept.proofs.Letting.{IsForgetting}
use Rattle.cq_kept.proofs.forgetting.forget.Given as goal

abbrev pub invariant-over : goal.invariant-over
invariant-over g l = record {
  notes : IsForgetting l.initial.over.items l.over.items l.floor (keys l.initial.kept) (keys l.kept);
  rising : IsStrictlyIncreasing (keys l.kept);
  same : IsPartOf l.initial.kept l.kept;
  bytes : l.bytes + text_in l.kept ≡ text_in l.initial.kept;
}

-- the notes that are left
abbrev pub decreases-over : goal.decreases-over
decreases-over g l = length l.over.items
