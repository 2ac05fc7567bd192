use Rattle.std.proofs.Common.{◌<◌, ◌≤◌, ◌∙◌, length, sym, subst, arith}
use Rattle.std.proofs.lemmas.List.{length-set}
use Rattle.cq_base.specs.declared.settings.Settings.{Settings}
use Rattle.cq_shard.specs.Shard.{HasWindow}
use Rattle.cq_hub.specs.Shards.{IsShardOf}
use Rattle.cq_hub.proofs.ShardSteps.{shards_set, each_more}
use Rattle.cq_hub.proofs.applying.apply_counted.Goals as goal

-- the first shard has applied what is published, and the floor is no higher
pub behind-requires-clause-floor : goal.behind-requires-clause-floor
behind-requires-clause-floor g c =
    let b = c.args.board.now in
    let within : 0 < length c.args.shards.now.items = let n = c.requires.stand.number_is in let some = c.requires.some in omega (arith, n, some) in
    let first = subst (IsShardOf (HasWindow g.W.Indexed.keys_in g.W.Indexed.IsWorkOf b.settings) b 0) (sym c.index.ensures) (c.requires.stand.each 0 c.index.result.now within) in
    let reached = first.reached in
    let low = c.requires.floor in
    let here = c.applied.ensures in
    omega (arith, reached.0, low, here)

pub catch_up-requires-clause-within : goal.catch_up-requires-clause-within
catch_up-requires-clause-within g c = subst (λ (s : Settings). c.shards.number < s.shards) c.settings.ensures c.shards-test.true

pub catch_up-requires-clause-shard : goal.catch_up-requires-clause-shard
catch_up-requires-clause-shard g c =
    let b = c.args.board.now in
    let within : c.shards.number < length c.shards.shards.items = let lt : c.shards.number < b.settings.shards = subst (λ (s : Settings). c.shards.number < s.shards) c.settings.ensures c.shards-test.true in let n = c.shards.invariant.number in let all = c.requires.stand.number_is in omega (arith, lt, n, all) in
    subst (IsShardOf (HasWindow g.W.Indexed.keys_in g.W.Indexed.IsWorkOf b.settings) b c.shards.number) (sym c.index_mut.ensures.value) (c.shards.invariant.stand.each c.shards.number c.index_mut.result.now within)

pub returns-in_err-catch_up-clause-stand : goal.returns-in_err-catch_up-clause-stand
returns-in_err-catch_up-clause-stand g c =
    let b = c.args.board.now in
    let within : c.shards.number < length c.shards.shards.items = let lt : c.shards.number < b.settings.shards = subst (λ (s : Settings). c.shards.number < s.shards) c.settings.ensures c.shards-test.true in let n = c.shards.invariant.number in let all = c.requires.stand.number_is in omega (arith, lt, n, all) in
    shards_set (HasWindow g.W.Indexed.keys_in g.W.Indexed.IsWorkOf b.settings) b c.shards.shards.items c.shards.number c.catch_up.new.shard within c.catch_up.ensures.shard c.shards.invariant.stand

pub shards-preserved : goal.shards-preserved
shards-preserved g c =
    let b = c.args.board.now in
    let within : c.shards.number < length c.shards.shards.items = let lt : c.shards.number < b.settings.shards = subst (λ (s : Settings). c.shards.number < s.shards) c.settings.ensures c.shards-test.true in let n = c.shards.invariant.number in let all = c.requires.stand.number_is in omega (arith, lt, n, all) in
    let to = c.shards.invariant.to in
    record {
      number = length-set c.shards.shards.items c.shards.number c.catch_up.new.shard ∙ c.shards.invariant.number;
      stand = shards_set (HasWindow g.W.Indexed.keys_in g.W.Indexed.IsWorkOf b.settings) b c.shards.shards.items c.shards.number c.catch_up.new.shard within c.catch_up.ensures.shard c.shards.invariant.stand;
      coming = c.in_ok-catch_up.ensures.coming;
      to = c.in_ok-catch_up.ensures.to ∙ to;
      applied = each_more (λ x. c.args.to ≤ x.applied) c.shards.shards.items c.shards.number c.catch_up.new.shard within (subst (λ n. n ≤ c.catch_up.new.shard.applied) to c.in_ok-catch_up.ensures.applied) c.shards.invariant.applied;
    }
