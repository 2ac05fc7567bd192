use Rattle.std.proofs.Common.{◌≡◌, ◌≤◌}
use Rattle.cq_history.specs.State.{state, ready}
use Rattle.cq_session.proofs.ManyWorks.{AreDoneAround}
use Rattle.cq_talk.specs.Steps.{Led, Helps}
use Rattle.cq_session.proofs.helping.help_down.Given as goal

abbrev pub invariant-changes : goal.invariant-changes
invariant-changes g l = record {
  low : l.left ≤ l.to;
  led : Led g.H.Hub.Stands (g.H.Hub.callers l.server.hub.now) l.server.hub.now l.fn.pass l.pass (λ h. l.done ≤ ready (state (g.H.Hub.callers l.server.hub.now) h)) (λ c h. Helps g.H.Hub.alone c l.to h (AreDoneAround (g.H.Hub.callers l.server.hub.now) l.done l.left l.to));
  asked : g.H.Hub.asked l.pass ≡ g.H.Hub.asked l.fn.pass;
}

abbrev pub decreases-changes : goal.decreases-changes
decreases-changes g l = l.left
