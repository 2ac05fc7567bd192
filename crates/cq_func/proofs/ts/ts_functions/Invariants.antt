use Rattle.std.proofs.Common.{◌≡◌}
use Rattle.std.specs.Option.{option_to_list}
use Rattle.std.specs.List.{flat_map, range_with_len}
use Rattle.cq_func.specs.Names.{ts_function}
use Rattle.cq_func.proofs.ts.ts_functions.Given as goal

abbrev pub invariant-loop-name : goal.invariant-loop-name
invariant-loop-name l = l.found.items ≡ flat_map (λ at. option_to_list (ts_function l.tokens at)) (range_with_len 0 l.name)
