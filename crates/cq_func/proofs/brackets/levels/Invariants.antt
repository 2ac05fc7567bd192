use Rattle.std.proofs.Common.{◌≡◌}
use Rattle.cq_func.specs.Levels.{level}
use Rattle.cq_func.proofs.Counted.{AreLevelled}
use Rattle.cq_func.proofs.brackets.levels.Given as goal

abbrev pub invariant-loop-sign : goal.invariant-loop-sign
invariant-loop-sign l = (l.level ≡ level l.fn.lang l.kind l.tokens l.sign-index) × AreLevelled l.fn.lang l.kind l.tokens l.sign-index l.levels.items
