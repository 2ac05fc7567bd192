use Rattle.std.proofs.Common.{◌∙◌, subst}
use Rattle.cq_base.specs.Settings.{IsInRange}
use Rattle.cq_cells.specs.Passes.{by_of}
use Rattle.cq_listen.proofs.Seating.{stands}
use Rattle.cq_listen.proofs.benches.work_at.Goals as goal

pub work-pass-requires-clause-in_range : goal.work-pass-requires-clause-in_range
work-pass-requires-clause-in_range g c = subst IsInRange (c.bench.view_is ∙ c.requires) c.bench.invariant.in_range

pub work-pass-requires-clause-hub_settings : goal.work-pass-requires-clause-hub_settings
work-pass-requires-clause-hub_settings g c = c.bench.invariant.settings ∙ (c.bench.view_is ∙ c.requires)

pub work-pass-requires-clause-stands : goal.work-pass-requires-clause-stands
work-pass-requires-clause-stands g c = let p = c.bench.inside.pass in (by_of p, p.seen, stands c.bench.inside.hub.now p c.bench.invariant.idle.of)
