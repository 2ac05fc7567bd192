use Rattle.std.proofs.Common.{◌≡◌, ◌+◌, length, map, arith, rules}
use Rattle.std.specs.List.{range_with_len}
use Rattle.cq_func.specs.Tables.{open_mark}
use Rattle.cq_func.proofs.Marks.{marks_long}
use Rattle.cq_func.proofs.Partners.{marks_below, open_mark-small, opens_from}
use Rattle.cq_func.proofs.Listed.{if_ok}
use Rattle.cq_func.proofs.go.opens.Goals as goal

pub first_places-requires-clause-few : goal.first_places-requires-clause-few
first_places-requires-clause-few c =
    let ts = c.args.tokens.now in
    let marked : c.deref.result.now ≡ map (open_mark ts) (range_with_len 0 (length ts)) = search rules in
    let b = marks_long (open_mark ts) (length ts) c.deref.result.now marked in
    omega (arith, b)

pub first_places-requires-clause-marked : goal.first_places-requires-clause-marked
first_places-requires-clause-marked c =
    let ts = c.args.tokens.now in
    marks_below (open_mark ts) (length ts) (length ts + 1) c.deref.result.now (search rules) (open_mark-small ts)

pub returns : goal.returns
returns c =
    let ts = c.args.tokens.now in
    let marked : c.deref.result.now ≡ map (open_mark ts) (range_with_len 0 (length ts)) = search rules in
    if_ok (λ t. opens_from ts (length ts + 1) c.deref.result.now t.items marked (omega arith)) c.first_places.result c.first_places.ensures
