use Rattle.std.proofs.Common.{◌≡◌, None, refl, sym, subst}
use Rattle.cq_history.specs.State.{view_of}
use Rattle.cq_history.proofs.Bounds.{no_view}
use Rattle.cq_cells.specs.Passes.{by_of}
use Rattle.cq_shared.specs.SharedPasses.{callers_of, state_of}
use Rattle.cq_part_cases.proofs.sweeping.serve.Goals as goal

pub publish_three-requires : goal.publish_three-requires
publish_three-requires g c =
    let hub = c.args.hub.now in
    let p = c.args.pass in
    (by_of p, p.seen, record { is = c.requires.of; caller = refl; seen = refl }, subst (λ l. view_of (state_of hub l) (by_of p) ≡ None) (sym c.requires.fresh) (no_view (callers_of hub) (by_of p)))
