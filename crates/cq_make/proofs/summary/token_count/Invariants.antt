use Rattle.std.proofs.Common.{◌≡◌, ◌+◌, ◌*◌, ◌≤◌, drop}
use Rattle.cq_make.specs.Summary.{token_count}
use Rattle.cq_make.proofs.summary.token_count.Given as goal

abbrev pub invariant-loop-row : goal.invariant-loop-row
invariant-loop-row l = record {
  counted : l.total + token_count (drop l.row-index l.rows) ≡ token_count l.rows;
  small : l.total ≤ l.row-index * 4294967295;
}
