use Rattle.std.proofs.Common.{◌≡◌, take}
use Rattle.cq_measures.specs.Parted.{runs_in}
use Rattle.cq_measures.proofs.parting.runs_of.Given as goal

abbrev pub invariant-loop-group : goal.invariant-loop-group
invariant-loop-group l = l.runs.items ≡ runs_in l.file (take l.group-index l.groups)
