use Rattle.std.proofs.Common.{subst}
use Rattle.std.specs.Prelude.{Contains}
use Rattle.cq_answer.proofs.placing.group_row.Goals as goal

pub place_rows-requires-clause-inside : goal.place_rows-requires-clause-inside
place_rows-requires-clause-inside g c = λ p here. c.requires.1 p (subst (λ ps. Contains ps p) c.as_slice.ensures here)
