use Rattle.std.proofs.Common.{◌≡◌, length}
use Rattle.cq_listen.proofs.listening.serve_rest.Given as goal

abbrev pub invariant-rest : goal.invariant-rest
invariant-rest g l = g.N.Attendant.settings l.attendant ≡ l.keyer.settings

abbrev pub decreases-rest : goal.decreases-rest
decreases-rest g l = length l.rest.items
