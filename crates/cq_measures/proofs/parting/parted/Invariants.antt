use Rattle.std.proofs.Common.{◌≡◌, ℕ, List, ◌<◌, take, map, length, get_or}
use Rattle.cq_measures.specs.declared.parting.Run.{Run}
use Rattle.cq_measures.specs.Parted.{runs_in}
use Rattle.cq_measures.proofs.parting.parted.Given as goal

abbrev pub invariant-loop-group : goal.invariant-loop-group
invariant-loop-group l = record {
  number : length l.parts.items ≡ l.files;
  each : (i : ℕ) (d : List Run) → i < l.files → get_or (map (λ part. part.items) l.parts.items) i d ≡ runs_in i (take l.group-index l.groups);
}
