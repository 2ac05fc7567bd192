use Rattle.std.proofs.Common.{◌≡◌, ◌++◌, map, take}
use Rattle.std.specs.Arc.{arc_value}
use Rattle.cq_projects.proofs.files.append_shared.Given as goal

abbrev pub invariant-loop-f : goal.invariant-loop-f
invariant-loop-f g l = map arc_value l.all.items ≡ map arc_value l.fn.all.items ++ map arc_value (take l.f-index l.files)
