use Rattle.std.proofs.Common.{◌<◌, sym, subst}
use Rattle.cq_cells.specs.Callers.{Differ}
use Rattle.cq_cells.specs.Passes as passes
use Rattle.cq_history.specs.State.{maker}
use Rattle.cq_chain.specs.Held.{IsLawful, IsShardAt}
use Rattle.cq_chain.specs.Passes.{BoardCells}
use Rattle.cq_chain.proofs.Passing.{is_pass, made_same, unmade_same, few_shard, found_here, found_published, found_swept, found_reached, found_small}
use Rattle.cq_chain.proofs.cells.Cells.enter_shard.Goals as goal

pub enter_shard-requires-clause-of : goal.enter_shard-requires-clause-of
enter_shard-requires-clause-of g c = subst (λ (z : BoardCells). passes.IsPassOf z c.args.pass.now) (sym c.self.view_is) c.requires.of.of

pub enter_shard-requires-clause-shard : goal.enter_shard-requires-clause-shard
enter_shard-requires-clause-shard g c =
    let near = subst (λ (z : BoardCells). c.args.shard < z.about.settings.shards) (sym c.self.view_is) c.requires.shard in
    subst (λ n. c.args.shard < n) (sym c.self.invariant.0) near

pub returns-clause-of : goal.returns-clause-of
returns-clause-of g c =
    let e = c.enter_shard.ensures in
    let q = c.enter_shard.new.pass in
    let about = c.self.inside.cells.about in
    is_pass c.self.inside.cells c.args.self.now q c.self.view_is c.self.invariant.1 e.of.0 (subst (IsLawful c.args.self.now.about) (sym e.seen) c.requires.of.law)
    (subst Differ (sym e.of.1.callers) c.requires.of.apart)
    (few_shard q c.args.shard c.enter_shard.result e.hand (found_small g.W.Indexed.keys_in g.W.Indexed.IsWorkOf about c.args.pass.now q c.args.shard c.enter_shard.result e.shard))
    (made_same c.args.pass.now q e.of.1 c.requires.of.made) (unmade_same c.args.pass.now q e.of.1 e.seen c.requires.of.unmade)

pub returns-clause-shard : goal.returns-clause-shard
returns-clause-shard g c =
    found_here g.W.Indexed.keys_in g.W.Indexed.IsWorkOf c.args.self.now.about c.args.pass.now c.enter_shard.new.pass c.args.shard c.enter_shard.result
    (subst (λ (z : BoardCells). passes.IsFound (IsLawful z.about) (IsShardAt g.W.Indexed.keys_in g.W.Indexed.IsWorkOf z.about) maker c.args.shard c.enter_shard.result c.args.pass.now c.enter_shard.new.pass) c.self.view_is c.enter_shard.ensures.shard)

pub returns-clause-published : goal.returns-clause-published
returns-clause-published g c =
    found_published g.W.Indexed.keys_in g.W.Indexed.IsWorkOf c.args.self.now.about c.args.pass.now c.enter_shard.new.pass c.args.shard c.enter_shard.result
    (subst (λ (z : BoardCells). passes.IsFound (IsLawful z.about) (IsShardAt g.W.Indexed.keys_in g.W.Indexed.IsWorkOf z.about) maker c.args.shard c.enter_shard.result c.args.pass.now c.enter_shard.new.pass) c.self.view_is c.enter_shard.ensures.shard)

pub returns-clause-swept : goal.returns-clause-swept
returns-clause-swept g c =
    found_swept g.W.Indexed.keys_in g.W.Indexed.IsWorkOf c.args.self.now.about c.args.pass.now c.enter_shard.new.pass c.args.shard c.enter_shard.result
    (subst (λ (z : BoardCells). passes.IsFound (IsLawful z.about) (IsShardAt g.W.Indexed.keys_in g.W.Indexed.IsWorkOf z.about) maker c.args.shard c.enter_shard.result c.args.pass.now c.enter_shard.new.pass) c.self.view_is c.enter_shard.ensures.shard)

pub returns-clause-reached : goal.returns-clause-reached
returns-clause-reached g c = found_reached g.W.Indexed.keys_in g.W.Indexed.IsWorkOf c.self.inside.cells.about c.args.pass.now c.enter_shard.new.pass c.args.shard c.enter_shard.result c.enter_shard.ensures.shard

pub returns-clause-small : goal.returns-clause-small
returns-clause-small g c = found_small g.W.Indexed.keys_in g.W.Indexed.IsWorkOf c.self.inside.cells.about c.args.pass.now c.enter_shard.new.pass c.args.shard c.enter_shard.result c.enter_shard.ensures.shard
