use Rattle.std.proofs.Common.{◌≡◌, ◌++◌}
use Rattle.cq_kept.proofs.Found.{puts_in}
use Rattle.cq_kept.proofs.changes.Changes.keep.Given as goal

-- the puts so far and those that are left are all of them
abbrev pub invariant-loop-number : goal.invariant-loop-number
invariant-loop-number g l = l.keep.items ++ puts_in l.number-iterator ≡ puts_in l.initial.number-iterator
