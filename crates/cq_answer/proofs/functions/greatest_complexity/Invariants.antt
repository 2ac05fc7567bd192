use Rattle.std.proofs.Common.{◌≡◌, drop}
use Rattle.std.specs.Prelude.{max}
use Rattle.cq_answer.specs.Rows.{greatest_complexity}
use Rattle.cq_answer.proofs.functions.greatest_complexity.Given as goal

abbrev pub invariant-loop-function : goal.invariant-loop-function
invariant-loop-function l =
    max l.greatest (greatest_complexity (drop l.function-index l.functions)) ≡ greatest_complexity l.functions
