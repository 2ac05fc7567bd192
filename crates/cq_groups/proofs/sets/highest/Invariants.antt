use Rattle.std.proofs.Common.{◌≡◌, ◌<◌, ◌≤◌, take}
use Rattle.std.specs.Prelude.{All, Any}
use Rattle.cq_groups.proofs.sets.highest.Given as goal

abbrev pub invariant-loop-x : goal.invariant-loop-x
invariant-loop-x l = All (λ x. x.mark ≤ l.most) (take l.x-index l.marked) × (0 < l.most → Any (λ x. x.mark ≡ l.most) (take l.x-index l.marked))
