use Rattle.std.proofs.Common.{◌≡◌, ◌++◌, map}
use Rattle.cq_cells.specs.declared.item.Item.TheVariants as item
use Rattle.cq_cells.proofs.cells.items.Given as goal

abbrev pub invariant-loop-shard : goal.invariant-loop-shard
invariant-loop-shard g l = l.values.items ≡ l.initial.values.items ++ map (λ x. item.Shard x) l.yielded
