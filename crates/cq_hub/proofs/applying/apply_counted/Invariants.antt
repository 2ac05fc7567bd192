use Rattle.std.proofs.Common.{◌≡◌, ℕ, ◌<◌, ◌≤◌, length, get_or}
use Rattle.cq_shard.specs.Shard.{Contents, HasWindow}
use Rattle.cq_hub.specs.Shards.{AreShardsOf}
use Rattle.cq_hub.specs.Comings.{IsComing}
use Rattle.cq_hub.proofs.applying.apply_counted.Given as goal

abbrev pub invariant-shards : goal.invariant-shards
invariant-shards g l = record {
  number : length l.shards.items ≡ length l.fn.shards.items;
  stand : AreShardsOf (HasWindow g.W.Indexed.keys_in g.W.Indexed.IsWorkOf l.board.settings) l.board l.shards.items;
  coming : IsComing g.W.Indexed.keys_in g.W.Indexed.IsWorkOf l.board l.number l.coming;
  to : l.coming.to ≡ l.to;
  applied : (k : ℕ) (d : Contents) → k < l.number → l.to ≤ (get_or l.shards.items k d).applied;
}
