use Rattle.std.proofs.Common.{◌≡◌, ◌-◌}
use Rattle.cq_tokform.specs.Reading.{token_at, items_at}
use Rattle.cq_tokform.proofs.Counted.{with_front}
use Rattle.cq_tokform.proofs.tokens.tokens_at.Given as goal

abbrev pub invariant-loop : goal.invariant-loop
invariant-loop l = with_front l.tokens.items (items_at (token_at l.settings l.lines) (l.count - l.counter) l.rest) ≡ items_at (token_at l.settings l.lines) l.count l.bytes
