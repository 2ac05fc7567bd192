use Rattle.std.proofs.Common.{◌≡◌, take, filter}
use Rattle.cq_measures.specs.Measures as spec
use Rattle.cq_measures.proofs.choosing.chosen_extents.Given as goal

abbrev pub invariant-loop-group : goal.invariant-loop-group
invariant-loop-group l = l.extents.items ≡ filter (spec.is_in_chosen l.chosen) (spec.extents_of (spec.spans_of l.files) (take l.group-index l.groups))
