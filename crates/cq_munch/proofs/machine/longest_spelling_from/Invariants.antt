use Rattle.std.proofs.Common.{map}
use Rattle.cq_munch.specs.Scans.{Scanned}
use Rattle.cq_munch.proofs.machine.longest_spelling_from.Given as goal

abbrev pub invariant-loop-i : goal.invariant-loop-i
invariant-loop-i g l =
    Scanned (g.M.Machine.rest l.fn.start) (g.M.Machine.rest l.state) (map (λ u. u.ch) l.units) l.i l.found
