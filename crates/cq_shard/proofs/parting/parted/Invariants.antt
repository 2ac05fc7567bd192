use Rattle.std.proofs.Common.{◌≡◌, ◌+◌, drop, map}
use Rattle.std.specs.Arc.{arc_value}
use Rattle.cq_shard.specs.Shard.{all_brought}
use Rattle.cq_shard.specs.Parts.{AreBegun}
use Rattle.cq_shard.proofs.parting.parted.Given as goal

-- what is left brings the rest
abbrev pub invariant-loop-work : goal.invariant-loop-work
invariant-loop-work g l = record {
  change : l.change ≡ l.applied + l.work-index;
  begun : AreBegun l.shards (λ n. all_brought (λ w. g.W.Indexed.keys_in (arc_value w)) l.change n l.shards (drop l.work-index l.works)) (λ n. all_brought (λ w. g.W.Indexed.keys_in (arc_value w)) l.applied n l.shards l.works) (map (λ part. part.items) l.parts.items);
}
