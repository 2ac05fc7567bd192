use Rattle.std.proofs.Common.{◌<◌, length, ap, ◌∙◌}
use Rattle.cq_order.specs.Spots.{closed}
use Rattle.cq_order.proofs.InPlace.{in_place_read, in_place_set}
use Rattle.cq_order.proofs.spots.close_at.Goals as goal

pub loop-i-preserved : goal.loop-i-preserved
loop-i-preserved c =
    let moved = closed c.args.at in
    let old = c.args.files.now in
    let i = c.loop-i.i in
    let within : i < length old = c.loop-i-test.true in
    in_place_set moved old c.loop-i.files i 0 c.closed.result within c.loop-i.invariant
    (c.closed.ensures ∙ ap moved (in_place_read moved old c.loop-i.files i 0 within c.loop-i.invariant))
