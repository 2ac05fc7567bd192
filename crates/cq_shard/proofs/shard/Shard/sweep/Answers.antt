use Rattle.std.proofs.Common.{◌≤◌, ◌∙◌, ap, sym, subst}
use Rattle.cq_shard.specs.Shard.{Contents, IsShard, AreKnown, swept}
use Rattle.cq_shard.specs.Stores.{Stored}
use Rattle.cq_shard.proofs.Sweeping.{swept_is_shard}
use Rattle.cq_shard.proofs.shard.Shard.sweep.Goals as goal

pub invariant_of-self : goal.invariant_of-self
invariant_of-self c =
    let s = c.self.inside in
    let own : Contents = record { shard = s.shard; shards = s.shards; applied = s.store.applied; floor = s.floor; puts = s.store.puts; entries = s.store.entries } in
    subst (λ (t : Stored). let v : Contents = record { shard = s.shard; shards = s.shards; applied = t.applied; floor = c.args.floor; puts = t.puts; entries = t.entries } in IsShard v) (sym c.sweep.ensures)
    (swept_is_shard own c.args.floor c.args.keep.now (subst (λ (v : Contents). c.args.floor ≤ v.applied) (sym c.self.view_is) c.requires.high) c.self.invariant)

pub returns : goal.returns
returns c =
    let s = c.self.inside in
    ap (λ (t : Stored). let v : Contents = record { shard = s.shard; shards = s.shards; applied = t.applied; floor = c.args.floor; puts = t.puts; entries = t.entries } in v) c.sweep.ensures
    ∙ ap (swept c.args.floor c.args.keep.now) c.self.view_is

pub sweep-requires-clause-known : goal.sweep-requires-clause-known
sweep-requires-clause-known c = subst (AreKnown c.args.keep.now) (sym c.self.view_is) c.requires.known
