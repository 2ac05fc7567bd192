use Rattle.std.proofs.lemmas.List.Elements.{Contains-get_or}
use Rattle.cq_answer.proofs.placing.place_rows.Goals as goal

pub place_row-requires-clause-inside : goal.place_row-requires-clause-inside
place_row-requires-clause-inside g c = c.requires.inside _ (Contains-get_or c.args.places.now c.loop-place.place-index _ c.loop-place-test.true)
