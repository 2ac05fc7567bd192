use Rattle.std.proofs.Common.{◌≡◌, take}
use Rattle.std.specs.Prelude.{All}
use Rattle.cq_groups.specs.Rows.{all_of}
use Rattle.cq_groups.proofs.rows.singles.Given as goal

abbrev pub invariant-loop-i : goal.invariant-loop-i
invariant-loop-i l = (all_of l.rows.items ≡ take l.i l.spots) × All (λ r. r.others ≡ 0) l.rows.items
