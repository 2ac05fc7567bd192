use Rattle.std.proofs.Common.{rules, ◌≡◌, map, filter, arith}
use Rattle.cq_measures.specs.Extents.{extent_of_token, has_bytes}
use Rattle.cq_measures.specs.Sorted.{AreBelow}
use Rattle.cq_measures.proofs.CodeLines.{code_below}
use Rattle.cq_measures.proofs.counting.ncloc.Goals as goal

pub count_up-requires : goal.count_up-requires
count_up-requires c =
    let is : c.in_ok-code_extents-in-None.field-0.items ≡ map extent_of_token (filter has_bytes c.args.tokens.now) = search rules in
    rw is (code_below 262144 (filter has_bytes c.args.tokens.now) (omega arith))

pub returns-in_ok-code_extents-in-None-clause-within : goal.returns-in_ok-code_extents-in-None-clause-within
returns-in_ok-code_extents-in-None-clause-within c =
    let is : c.in_ok-code_extents-in-None.field-0.items ≡ map extent_of_token (filter has_bytes c.args.tokens.now) = search rules in
    let below : AreBelow 1 c.in_ok-code_extents-in-None.field-0.items = rw is (code_below 1 (filter has_bytes c.args.tokens.now) (omega arith)) in
    let within = c.count_up.ensures.within 1 below in
    omega (arith, within)
