use Rattle.std.proofs.Common.{◌≡◌, ◌++◌, map}
use Rattle.std.specs.Arc.{arc_value}
use Rattle.std.specs.Vec.Iter.{into_iter_items}
use Rattle.cq_projects.proofs.draft.own_drafts.Given as goal

abbrev pub invariant-loop-project : goal.invariant-loop-project
invariant-loop-project g l = l.drafts.items ++ map arc_value (into_iter_items l.project-iterator) ≡ map arc_value l.fn.projects.items
