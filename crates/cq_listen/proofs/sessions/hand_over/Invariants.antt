use Rattle.cq_listen.proofs.sessions.hand_over.Given as goal

abbrev pub invariant-turns : goal.invariant-turns
invariant-turns g l = g.A.Arrivals.Since l.fn.arrivals l.arrivals
