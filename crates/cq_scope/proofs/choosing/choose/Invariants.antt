use Rattle.std.proofs.Common.{◌≡◌, length, filter, map, take}
use Rattle.std.specs.Prelude.{option_map}
use Rattle.std.specs.Arc.{arc_value}
use Rattle.std.specs.List.{range_with_len}
use Rattle.cq_scope.specs.Chosen.{is_chosen_at}
use Rattle.cq_scope.proofs.choosing.choose.Given as goal

-- the chosen ones of the positions so far
abbrev pub invariant-loop-i : goal.invariant-loop-i
invariant-loop-i g l =
    let files = map arc_value l.files in
    l.chosen.items ≡ filter (is_chosen_at (option_map (λ p. p.now) l.scope) l.since files) (take l.i (range_with_len 0 (length l.files)))
