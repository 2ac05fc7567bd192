use Rattle.std.proofs.Common.{◌≡◌, ◌++◌, drop}
use Rattle.cq_clones.specs.Groups.{kept_after, kept_of}
use Rattle.cq_order.proofs.keeping.kept.Given as goal

abbrev pub invariant-loop-p : goal.invariant-loop-p
invariant-loop-p l = l.kept.items ++ kept_after l.tokens l.last (drop l.p-index l.all) ≡ kept_of l.tokens l.all
