use Rattle.std.proofs.Common.{◌≡◌, ◌<◌, ◌∙◌, length, get_or, sym, ap, subst, subst₂, arith}
use Rattle.std.proofs.lemmas.List.{length-set}
use Rattle.cq_history.specs.Gone.{AreKeptPuts}
use Rattle.cq_history.specs.State.{changes_in}
use Rattle.cq_shard.specs.Shard.{HasWindow}
use Rattle.cq_hub.specs.Shards.{IsShardOf, IsSweptTo}
use Rattle.cq_hub.proofs.ShardSteps.{shards_set, each_more}
use Rattle.cq_hub.proofs.Raising.{shard_swept}
use Rattle.cq_hub.proofs.sweeping.sweep_shards.Goals as goal

pub returns-then-least-floor-clause-swept : goal.returns-then-least-floor-clause-swept
returns-then-least-floor-clause-swept g c = λ k d lt.
    let low = c.least_floor-least.ensures.least k d (subst (λ xs. k < length xs) (sym c.deref.ensures.value) lt) in
    let same = ap (λ xs. (get_or xs k d).floor) c.deref.ensures.value in
    let high = (c.requires.stand.each k d lt).swept in
    let at = c.if-least-floor.true in
    let is = c.floor-floor.ensures in
    omega (arith, low, same, high, at, is)

pub sweep_to-requires-clause-kept : goal.sweep_to-requires-clause-kept
sweep_to-requires-clause-kept g c =
    let b = c.args.board.now in
    let inv = c.shards.invariant in
    let i = c.shards.i in
    let within : i < length c.shards.shards.items = let n = inv.number in let len = c.len-i-end.ensures in let lt = c.shards-test.true in omega (arith, n, len, lt) in
    let old = c.index_mut.result.now in
    let was : IsShardOf (HasWindow g.W.Indexed.keys_in g.W.Indexed.IsWorkOf b.settings) b i old =
    subst (IsShardOf (HasWindow g.W.Indexed.keys_in g.W.Indexed.IsWorkOf b.settings) b i) (sym c.index_mut.ensures.value) (inv.stand.each i old within) in
    record {
      settings = b.settings;
      changes = changes_in b.state;
      stands = was.stands;
      kept = subst₂ (λ f ns. AreKeptPuts (changes_in b.state) f ns) (sym c.floor-floor.ensures) (sym c.numbers-numbers.ensures) c.in_ok-keep.ensures;
    }

pub shards-preserved : goal.shards-preserved
shards-preserved g c =
    let b = c.args.board.now in
    let inv = c.shards.invariant in
    let shards = c.shards.shards.items in
    let i = c.shards.i in
    let new = c.sweep_to.new.shard in
    let within : i < length shards = let n = inv.number in let len = c.len-i-end.ensures in let lt = c.shards-test.true in omega (arith, n, len, lt) in
    let floor = c.floor-floor.ensures in
    let old = c.index_mut.result.now in
    let keep = c.in_ok-keep.keep in
    let was : IsShardOf (HasWindow g.W.Indexed.keys_in g.W.Indexed.IsWorkOf b.settings) b i old =
    subst (IsShardOf (HasWindow g.W.Indexed.keys_in g.W.Indexed.IsWorkOf b.settings) b i) (sym c.index_mut.ensures.value) (inv.stand.each i old within) in
    let how = subst (λ f. IsSweptTo f keep old new) floor (subst (λ xs. IsSweptTo c.floor-floor.result xs old new) c.numbers-numbers.ensures c.sweep_to.ensures) in
    let then = shard_swept (HasWindow g.W.Indexed.keys_in g.W.Indexed.IsWorkOf b.settings) b keep c.in_ok-keep.ensures i old new how was in
    record {
      number = length-set shards i new ∙ inv.number;
      stand = shards_set (HasWindow g.W.Indexed.keys_in g.W.Indexed.IsWorkOf b.settings) b shards i new within then.0 inv.stand;
      swept = each_more (λ x. x.floor ≡ c.floor-floor.result) shards i new within (then.1 ∙ sym floor) inv.swept;
    }
