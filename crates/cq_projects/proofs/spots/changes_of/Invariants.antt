use Rattle.std.proofs.Common.{◌≡◌, map, take}
use Rattle.std.specs.Arc.{arc_value}
use Rattle.cq_projects.specs.Spotted.{numbers_of}
use Rattle.cq_projects.proofs.spots.changes_of.Given as goal

abbrev pub invariant-loop-file : goal.invariant-loop-file
invariant-loop-file g l = l.changes.items ≡ numbers_of (map arc_value (take l.file-index l.files))
