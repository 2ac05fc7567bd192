use Rattle.std.proofs.Common.{◌≡◌, ◌++◌, take}
use Rattle.cq_groups.specs.Rows.{row_spots, all_of, IsRow, AreRows}
use Rattle.cq_groups.proofs.rows.rows_at.Given as goal

-- the rows that are done, and the one that may still take in others
abbrev pub invariant-loop-i : goal.invariant-loop-i
invariant-loop-i l = (all_of l.made.items ++ row_spots l.row ≡ all_of (take l.i l.rows)) × IsRow l.depth l.row × AreRows l.depth l.made.items
