use Rattle.std.proofs.Common.{◌≡◌, ◌++◌, map}
use Rattle.std.specs.Vec.Iter.{into_iter_items}
use Rattle.cq_normal.specs.Normal.{norm_of}
use Rattle.cq_normal.proofs.normal.norms_of.Given as goal

abbrev pub invariant-loop-spelled : goal.invariant-loop-spelled
invariant-loop-spelled l = l.norms.items ++ map (norm_of l.settings l.lang) (into_iter_items l.spelled-iterator) ≡ map (norm_of l.settings l.lang) l.fn.tokens.items
