use Rattle.std.proofs.Common.{◌≡◌, ◌-◌}
use Rattle.cq_tokform.specs.Reading.{condition_at, items_at}
use Rattle.cq_tokform.proofs.Counted.{with_front}
use Rattle.cq_tokform.proofs.conditions.conditions_at.Given as goal

abbrev pub invariant-loop : goal.invariant-loop
invariant-loop l = with_front (l.conditions.items) (items_at condition_at (l.count - l.counter) l.rest) ≡ items_at condition_at l.count l.bytes
