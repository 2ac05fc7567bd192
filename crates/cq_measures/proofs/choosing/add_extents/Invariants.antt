use Rattle.std.proofs.Common.{◌≡◌, ◌++◌, map, take, filter}
use Rattle.cq_measures.specs.Measures as spec
use Rattle.cq_measures.proofs.choosing.add_extents.Given as goal

abbrev pub invariant-loop-place : goal.invariant-loop-place
invariant-loop-place l = l.extents.items ≡ l.initial.extents.items ++ filter (spec.is_in_chosen l.chosen) (map (spec.extent_of (spec.spans_of l.files) l.group.tokens) (take l.place-index l.group.places))
