use Rattle.std.proofs.Common.{◌≡◌, map, take}
use Rattle.std.specs.Arc.{arc_value}
use Rattle.cq_export.proofs.sharing.owners_of.Given as goal

abbrev pub invariant-loop-file : goal.invariant-loop-file
invariant-loop-file g l = map arc_value l.owners.items ≡ map arc_value (take l.file-index l.files)
