use Rattle.std.proofs.Common.{◌≡◌, ◌-◌, length, filter, ◌++◌}
use Rattle.std.specs.List.{range_with_len}
use Rattle.cq_measures.specs.Verdict.{is_met_at, failed}
use Rattle.cq_measures.proofs.judging.failed.Given as goal

-- the positions so far, and those that are met of the rest, are all
abbrev pub invariant-loop-i : goal.invariant-loop-i
invariant-loop-i l = l.failed.items ++ filter (is_met_at l.measures l.conditions) (range_with_len l.i (length l.conditions - l.i)) ≡ failed l.measures l.conditions
