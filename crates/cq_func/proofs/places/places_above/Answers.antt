use Rattle.std.proofs.Common.{◌<◌, ◌-◌, get_or, refl, arith, rules}
use Rattle.std.proofs.lemmas.List.{get_or_read}
use Rattle.cq_func.proofs.Search.{nearest_more, found_more}
use Rattle.cq_func.proofs.places.places_above.Goals as goal

pub loop-at-preserved : goal.loop-at-preserved
loop-at-preserved c =
    let before = c.loop-at.invariant in
    let at = c.loop-at.at - 1 in
    let w = get_or c.args.wanted.now at 0 in
    let low : w < c.args.width = c.requires.looked_for at 0 (omega arith) in
    let long = before.1.long in
    let read = get_or_read c.loop-at.nearest.items w c.index.result.now (omega (arith, low, long)) c.index.ensures 0 in (
      omega arith,
      nearest_more _ _ _ _ _ _ (omega arith) (omega arith) (search rules) (search rules) before.1,
      found_more _ _ _ at _ _ _ w _ (omega arith) (omega arith) refl low read before.1 before.2,
    )
