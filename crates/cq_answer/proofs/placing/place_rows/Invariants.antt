use Rattle.std.proofs.Common.{◌≡◌, map, take}
use Rattle.cq_answer.specs.Rows.{place_row}
use Rattle.cq_answer.specs.Works.{works_in, facts_in}
use Rattle.cq_answer.proofs.placing.place_rows.Given as goal

abbrev pub invariant-loop-place : goal.invariant-loop-place
invariant-loop-place g l =
    l.rows.items ≡ map (place_row (facts_in (works_in l.files)) l.tokens) (take l.place-index l.places)
