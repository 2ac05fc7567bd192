use Rattle.std.proofs.Common.{◌≡◌, ◌≤◌, ◌*◌, ◌^◌, take}
use Rattle.cq_measures.proofs.Totals.{total_of}
use Rattle.cq_measures.proofs.measuring.total.Given as goal

-- the files so far, each with at most 2^32 of what is counted
abbrev pub invariant-loop-file : goal.invariant-loop-file
invariant-loop-file l =
    (l.all ≡ total_of (take l.file-index l.files))
    × (l.all.lines ≤ l.file-index * 2 ^ 32)
    × (l.all.ncloc ≤ l.file-index * 2 ^ 32)
    × (l.all.complexity ≤ l.file-index * 2 ^ 32)
