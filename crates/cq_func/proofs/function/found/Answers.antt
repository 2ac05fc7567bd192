use Rattle.std.proofs.Common.{length, rules}
use Rattle.std.specs.List.{range_with_len}
use Rattle.cq_func.proofs.Listed.{none_found}
use Rattle.cq_func.proofs.function.found.Goals as goal

pub returns-in-Any : goal.returns-in-Any
returns-in-Any c = let none = none_found (range_with_len 0 (length c.args.tokens.now)) in search (rules, none)
