use Rattle.std.proofs.Common.{◌≡◌, ◌++◌, map}
use Rattle.std.specs.Vec.Iter.{into_iter_items}
use Rattle.cq_tokfile.specs.Snapshot.{norm_in}
use Rattle.cq_tokfile.proofs.decoding.norms_of.Given as goal

abbrev pub invariant-loop-spelled : goal.invariant-loop-spelled
invariant-loop-spelled l = l.norms.items ++ map (norm_in l.lang) (into_iter_items l.spelled-iterator) ≡ map (norm_in l.lang) l.fn.tokens.items
