use Rattle.std.proofs.Common.{◌≡◌}
use Rattle.cq_serve.specs.Labours.{HasLaboured}
use Rattle.cq_serve.proofs.working.work.Given as goal

abbrev pub invariant-turns : goal.invariant-turns
invariant-turns g l = record { labours : HasLaboured g.H.Hub l.server.hub.now l.initial.pass l.pass; asked : g.H.Hub.asked l.pass ≡ g.H.Hub.asked l.initial.pass }
