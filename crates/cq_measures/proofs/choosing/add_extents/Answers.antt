use Rattle.std.proofs.lemmas.List.Elements.{Contains-get_or}
use Rattle.cq_measures.proofs.choosing.add_extents.Goals as goal

pub add_extent-requires-clause-inside : goal.add_extent-requires-clause-inside
add_extent-requires-clause-inside c = rw c.as_slice-place-items.ensures (c.requires.inside.1 _ (Contains-get_or c.args.group.now.places c.loop-place.place-index (record { file = 0; at = 0 }) (rw c.as_slice-place-items.ensures at c.loop-place-test.true)))
