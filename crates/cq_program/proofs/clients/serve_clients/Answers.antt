use Rattle.std.proofs.Common.{◌≡◌, List, None, sym, subst}
use Rattle.cq_cells.specs.Passes.{by_of}
use Rattle.cq_history.specs.declared.event.Event.{Event}
use Rattle.cq_history.specs.State.{view_of}
use Rattle.cq_history.proofs.Bounds.{no_view}
use Rattle.cq_shared.specs.SharedPasses.{callers_of, state_of}
use Rattle.cq_program.proofs.clients.serve_clients.Goals as goal

pub serve-requires-clause-idle : goal.serve-requires-clause-idle
serve-requires-clause-idle g c κs lives =
    let hub = c.in_ok-made.made.0 in
    let pass = c.in_ok-made.made.1 in
    let stands = c.in_ok-made.ensures.stands in
    record {
      of = stands.is;
      closed = subst (λ (h : List Event). view_of (state_of hub h) (by_of pass) ≡ None) (sym stands.seen) (no_view (callers_of hub) (by_of pass));
    }
