use Rattle.std.proofs.Common.{◌≡◌, ◌-◌, ◌≤◌}
use Rattle.cq_history.specs.State.{state, ready}
use Rattle.cq_talk.specs.Steps.{Led, Helps}
use Rattle.cq_session.proofs.helping.help.Given as goal

abbrev pub invariant-rounds : goal.invariant-rounds
invariant-rounds g l = record {
  led : Led g.H.Hub.Stands (g.H.Hub.callers l.server.hub.now) l.server.hub.now l.fn.pass l.pass (λ h. l.done ≤ ready (state (g.H.Hub.callers l.server.hub.now) h)) (λ c h. Helps g.H.Hub.alone c l.to h (λ after. l.from ≤ ready (state (g.H.Hub.callers l.server.hub.now) after)));
  asked : g.H.Hub.asked l.pass ≡ g.H.Hub.asked l.fn.pass;
}

abbrev pub decreases-rounds : goal.decreases-rounds
decreases-rounds g l = l.to - l.from
