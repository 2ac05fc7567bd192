use Rattle.std.proofs.Common.{◌≡◌}
use Rattle.cq_listen.proofs.sessions.serve_queue.Given as goal

abbrev pub invariant-turns : goal.invariant-turns
invariant-turns g l = g.N.Attendant.settings l.attendant ≡ l.keyer.settings
