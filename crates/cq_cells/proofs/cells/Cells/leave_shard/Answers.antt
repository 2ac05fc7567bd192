use Rattle.std.proofs.Common.{arith, ◌+◌, None, ap, ◌∙◌}
use Rattle.cq_cells.specs.declared.item.Item.TheVariants as item
use Rattle.cq_cells.proofs.Passing.{same_value, same_note, held_seat, ok_idle, shard_fits, reached_now}
use Rattle.cq_cells.proofs.cells.Cells.leave_shard.Goals as goal

pub release-requires-clause-hand : goal.release-requires-clause-hand
release-requires-clause-hand g c = let p = c.pass.inside in let hand = c.requires.hand in
    (item.Shard hand.0, None, held_seat p.by p.next p.seat.me.0 p.seat.me.1 _ (item.Shard hand.0) None c.pass.invariant (ap (λ z. z.hand) c.pass.view_is ∙ hand.1))

pub release-requires-clause-fits : goal.release-requires-clause-fits
release-requires-clause-fits g c = λ x event h. let p = c.pass.inside in let hand = c.requires.hand in
    let has = ap (λ z. z.hand) c.pass.view_is ∙ hand.1 in
    shard_fits g.L.Law.lawful g.L.Law.board g.L.Law.shard _ _ _ _ c.self.view_is c.pass.view_is c.args.shard c.args.applied hand.0 c.args.value x event
    (same_value p.seat.me.0.hand (c.args.shard + 1) x (item.Shard hand.0) event None h.0 has) (same_note p.seat.me.0.hand (c.args.shard + 1) x (item.Shard hand.0) event None h.0 has)
    (c.requires.step hand.0 hand.1)

pub invariant_of-pass : goal.invariant_of-pass
invariant_of-pass g c = let p = c.pass.inside in let q = c.release.new.pass in
    ok_idle p.by p.next p.seat.me.0 p.seat.me.1 q.me.0 q.me.1 c.pass.invariant c.release.ensures.free c.release.ensures.own.1

pub returns-clause-reached : goal.returns-clause-reached
returns-clause-reached g c = reached_now c.args.shard c.args.applied _ _ _ c.pass.view_is c.release.ensures.known (c.release.ensures.reached (λ e. omega arith))
