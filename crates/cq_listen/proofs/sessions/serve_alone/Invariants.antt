use Rattle.std.proofs.Common.{◌≡◌}
use Rattle.cq_listen.proofs.sessions.serve_alone.Given as goal

abbrev pub invariant-turns : goal.invariant-turns
invariant-turns g l = record { keyed : g.N.Attendant.settings l.own ≡ l.keyer.settings; since : g.A.Arrivals.Since l.fn.arrivals l.arrivals }
