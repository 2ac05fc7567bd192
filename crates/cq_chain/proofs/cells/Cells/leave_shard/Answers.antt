use Rattle.std.proofs.Common.{◌<◌, ◌^◌, sym, subst}
use Rattle.cq_cells.specs.Callers.{Differ}
use Rattle.cq_cells.specs.Passes as passes
use Rattle.cq_cells.specs.Passes.{HasReached}
use Rattle.cq_chain.specs.Held.{IsLawful, IsShardAt}
use Rattle.cq_chain.specs.Passes.{BoardCells}
use Rattle.cq_chain.proofs.Passing.{is_pass, made_same, unmade_same, few_free, may_leave, may_count}
use Rattle.cq_chain.proofs.cells.Cells.leave_shard.Goals as goal

pub leave_shard-requires-clause-of : goal.leave_shard-requires-clause-of
leave_shard-requires-clause-of g c = subst (λ (z : BoardCells). passes.IsPassOf z c.args.pass.now) (sym c.self.view_is) c.requires.of.of

pub leave_shard-requires-clause-shard : goal.leave_shard-requires-clause-shard
leave_shard-requires-clause-shard g c =
    let near = subst (λ (z : BoardCells). c.args.shard < z.about.settings.shards) (sym c.self.view_is) c.requires.shard in
    subst (λ n. c.args.shard < n) (sym c.self.invariant.0) near

pub leave_shard-requires-clause-hand : goal.leave_shard-requires-clause-hand
leave_shard-requires-clause-hand g c = (c.requires.step.was, c.requires.step.hand)

pub leave_shard-requires-clause-step : goal.leave_shard-requires-clause-step
leave_shard-requires-clause-step g c =
    subst (λ (z : BoardCells). passes.MayLeave (IsLawful z.about) (IsShardAt g.W.Indexed.keys_in g.W.Indexed.IsWorkOf z.about) c.args.pass.now c.args.shard c.applied-applied.result c.args.value) (sym c.self.view_is)
    (subst (λ n. passes.MayLeave (IsLawful c.args.self.now.about) (IsShardAt g.W.Indexed.keys_in g.W.Indexed.IsWorkOf c.args.self.now.about) c.args.pass.now c.args.shard n c.args.value) (sym c.applied-applied.ensures)
    (may_leave g.W.Indexed.keys_in g.W.Indexed.IsWorkOf c.args.self.now.about c.args.pass.now c.args.shard c.args.value c.requires.step))

pub leave_shard-requires-clause-small : goal.leave_shard-requires-clause-small
leave_shard-requires-clause-small g c =
    let limit = subst (λ (z : BoardCells). z.about.settings.change_limit < 2 ^ 63) c.self.view_is c.self.invariant.2 in
    subst (λ n. n < 2 ^ 63) (sym c.applied-applied.ensures) (may_count g.W.Indexed.keys_in g.W.Indexed.IsWorkOf c.args.self.now c.args.pass.now c.args.shard c.args.value limit c.requires.of c.requires.step)

pub returns-clause-of : goal.returns-clause-of
returns-clause-of g c =
    let e = c.leave_shard.ensures in
    let q = c.leave_shard.new.pass in
    is_pass c.self.inside.cells c.args.self.now q c.self.view_is c.self.invariant.1 e.of.0 (subst (IsLawful c.args.self.now.about) (sym e.seen) c.requires.of.law)
    (subst Differ (sym e.of.1.callers) c.requires.of.apart) (few_free q e.free)
    (made_same c.args.pass.now q e.of.1 c.requires.of.made) (unmade_same c.args.pass.now q e.of.1 e.seen c.requires.of.unmade)

pub returns-clause-reached : goal.returns-clause-reached
returns-clause-reached g c = subst (λ n. HasReached c.args.shard n c.args.pass.now c.leave_shard.new.pass) c.applied-applied.ensures c.leave_shard.ensures.reached
