use Rattle.cq_cells.specs.Passes.{by_of}
use Rattle.std.proofs.Common.{◌∙◌, subst}
use Rattle.cq_base.specs.Settings.{IsInRange}
use Rattle.cq_listen.proofs.Seating.{stands, seated_behind, limit_of}
use Rattle.cq_listen.proofs.seats.converse.Goals as goal

pub kept_session-over-requires-clause-in_range : goal.kept_session-over-requires-clause-in_range
kept_session-over-requires-clause-in_range g c κs lives = subst IsInRange (c.seat.view_is ∙ c.requires) c.seat.invariant.0.seated.in_range

pub kept_session-over-requires-clause-hub_settings : goal.kept_session-over-requires-clause-hub_settings
kept_session-over-requires-clause-hub_settings g c κs lives = c.seat.invariant.0.seated.settings ∙ (c.seat.view_is ∙ c.requires)

pub kept_session-over-requires-clause-keeps : goal.kept_session-over-requires-clause-keeps
kept_session-over-requires-clause-keeps g c κs lives = c.seat.invariant.1

pub kept_session-over-requires-clause-closed : goal.kept_session-over-requires-clause-closed
kept_session-over-requires-clause-closed g c κs lives =
    let p = c.seat.inside.pass in
    let is = c.seat.invariant.0.seated.idle in (by_of p, p.seen, stands c.seat.inside.hub.now p is.of, (is.closed, tt))

pub invariant_of-seat : goal.invariant_of-seat
invariant_of-seat g c =
    let hub = c.seat.inside.hub.now in
    let p = c.seat.inside.pass in
    let is = c.seat.invariant.0.seated.idle in
    let lead = c.kept_session-over.ensures.served (by_of p) p.seen (stands hub p is.of) is.closed tt in (
      record {
        seated = seated_behind hub c.seat.inside.settings.now p c.kept_session-over.new.pass (by_of p) lead.after c.seat.invariant.0.seated lead.stands lead.closed;
        limit_is = c.kept_session-over.ensures.limit ∙ limit_of _ _ c.restart.ensures ∙ c.seat.invariant.0.limit_is;
      },
      c.seat.invariant.1,
    )
