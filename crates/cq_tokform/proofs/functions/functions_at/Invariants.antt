use Rattle.std.proofs.Common.{◌≡◌, ◌-◌}
use Rattle.cq_tokform.specs.Reading.{function_at, items_at}
use Rattle.cq_tokform.proofs.Counted.{with_front}
use Rattle.cq_tokform.proofs.functions.functions_at.Given as goal

abbrev pub invariant-loop : goal.invariant-loop
invariant-loop l = with_front l.functions.items (items_at (function_at l.lines) (l.count - l.counter) l.rest) ≡ items_at (function_at l.lines) l.count l.bytes
