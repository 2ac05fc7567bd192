use Rattle.std.proofs.Common.{◌≡◌, map, take}
use Rattle.std.specs.Arc.{arc_value}
use Rattle.cq_projects.proofs.draft.drafts_of.Given as goal

abbrev pub invariant-loop-project : goal.invariant-loop-project
invariant-loop-project g l = l.drafts.items ≡ map arc_value (take l.project-index l.projects)
