use Rattle.std.proofs.Common.{arith, None, ap, ◌∙◌}
use Rattle.cq_cells.proofs.Passing.{idle_seat, ok_held, found}
use Rattle.cq_cells.proofs.cells.Cells.enter_shard.Goals as goal

pub take-requires-clause-free : goal.take-requires-clause-free
take-requires-clause-free g c = let p = c.pass.inside in
    idle_seat p.by p.next p.seat.me.0 p.seat.me.1 c.pass.invariant (ap (λ z. z.hand) c.pass.view_is ∙ c.requires.free)

pub invariant_of-pass : goal.invariant_of-pass
invariant_of-pass g c = let p = c.pass.inside in let q = c.take.new.pass in
    ok_held p.by p.next p.seat.me.0 p.seat.me.1 q.me.0 q.me.1 _ c.take.result None c.pass.invariant c.take.ensures.hand c.take.ensures.own.1

pub returns-clause-shard : goal.returns-clause-shard
returns-clause-shard g c = let v = c.take.ensures.value in
    found g.L.Law.lawful g.L.Law.board g.L.Law.shard _ _ _ _ c.self.view_is c.pass.view_is c.requires.of.has_caller g.L.Law.caller c.args.shard v.1 c.in-Shard.shard c.take.result v.0 _
    c.in-Shard.is (v.6 (λ e. omega arith)) v.2 v.3 v.4 v.8 v.9 v.7 v.10
