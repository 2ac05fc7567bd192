use Rattle.std.proofs.Common.{◌≤◌, vec_len}
use Rattle.cq_part_cases.proofs.scans.listed.Given as goal

abbrev pub invariant-loop-text : goal.invariant-loop-text
invariant-loop-text g l = vec_len l.files ≤ 100
