use Rattle.std.proofs.Common.{◌≡◌, map, take}
use Rattle.cq_answer.specs.Rows.{group_row}
use Rattle.cq_answer.specs.Works.{works_in, facts_in}
use Rattle.cq_answer.proofs.placing.group_rows.Given as goal

abbrev pub invariant-loop-group : goal.invariant-loop-group
invariant-loop-group g l =
    l.rows.items ≡ map (group_row (facts_in (works_in l.files))) (take l.group-index l.groups)
