use Rattle.std.proofs.Common.{◌≡◌, ◌++◌, take}
use Rattle.cq_measures.specs.Parted.{group_runs}
use Rattle.cq_measures.proofs.parting.add_runs.Given as goal

abbrev pub invariant-loop-place : goal.invariant-loop-place
invariant-loop-place l = l.runs.items ≡ l.initial.runs.items ++ group_runs l.file l.group.tokens (take l.place-index l.group.places)
