use Rattle.std.proofs.Common.{◌≡◌, ◌++◌, map}
use Rattle.std.specs.Prelude.{All}
use Rattle.std.specs.Arc.{arc_value}
use Rattle.std.specs.Vec.Iter.{into_iter_items}
use Rattle.cq_projects.specs.Spotted.{AreApart}
use Rattle.cq_projects.proofs.draft.finished_all.Given as goal

abbrev pub invariant-loop-draft : goal.invariant-loop-draft
invariant-loop-draft g l = (map arc_value l.projects.items ++ into_iter_items l.draft-iterator ≡ l.fn.drafts.items) × All AreApart (into_iter_items l.draft-iterator)
