use Rattle.std.proofs.Common.{◌≡◌, ℕ, ◌-◌, ◌≤◌, length}
use Rattle.cq_request.proofs.Walking.{left_after}
use Rattle.cq_request.proofs.skipping.pass_nested.Given as goal

abbrev pub invariant-rest : goal.invariant-rest
invariant-rest l =
    (n : ℕ) × (length l.reader ≤ n)
    × (left_after l.is_list (l.depth - 1) (length l.initial.reader) l.initial.reader ≡ left_after l.is_list (l.depth - 1) n l.reader)
    × (length l.reader ≤ length l.initial.reader)

abbrev pub decreases-rest : goal.decreases-rest
decreases-rest l = length l.reader
