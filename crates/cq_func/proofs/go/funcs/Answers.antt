use Rattle.std.proofs.Common.{◌≡◌, ◌+◌, length, map, arith, rules}
use Rattle.std.specs.List.{range_with_len}
use Rattle.cq_func.specs.Names.{go_name}
use Rattle.cq_func.proofs.Marks.{marks_long}
use Rattle.cq_func.proofs.Partners.{marks_below, go_name-small, funcs_from}
use Rattle.cq_func.proofs.Listed.{if_ok}
use Rattle.cq_func.proofs.go.funcs.Goals as goal

pub first_places-requires-clause-few : goal.first_places-requires-clause-few
first_places-requires-clause-few c =
    let ts = c.args.tokens.now in
    let marked : c.deref.result.now ≡ map (go_name ts) (range_with_len 0 (length ts)) = search rules in
    let b = marks_long (go_name ts) (length ts) c.deref.result.now marked in
    omega (arith, b)

pub first_places-requires-clause-marked : goal.first_places-requires-clause-marked
first_places-requires-clause-marked c =
    let ts = c.args.tokens.now in
    marks_below (go_name ts) (length ts) (length ts + 3) c.deref.result.now (search rules) (go_name-small ts)

pub returns : goal.returns
returns c =
    let ts = c.args.tokens.now in
    let marked : c.deref.result.now ≡ map (go_name ts) (range_with_len 0 (length ts)) = search rules in
    if_ok (λ t. funcs_from ts (length ts + 3) c.deref.result.now t.items marked (omega arith)) c.first_places.result c.first_places.ensures
