use Rattle.std.proofs.Common.{List, sym, subst, ◌≡◌, ◌∙◌}
use Rattle.std.proofs.lemmas.Result.{IfOk-weaker}
use Rattle.cq_order.specs.declared.spots.Spot.{Spot}
use Rattle.cq_order.specs.Spots.{AreSpots}
use Rattle.cq_order.proofs.Spotting.{sorted_spots}
use Rattle.cq_order.proofs.spots.sorted.Goals as goal

pub returns : goal.returns
returns c =
    let are = sorted_spots c.args.changes.now c.in_ok-spots.spots.items c.sort_spots.new.spots.items c.requires.apart c.in_ok-spots.ensures c.sort_spots.ensures in
    IfOk-weaker c.apart.result (λ (spots : List Spot). spots ≡ c.deref.result.now) (AreSpots c.args.changes.now)
    (λ spots is. subst (AreSpots c.args.changes.now) (sym (is ∙ c.deref.ensures.value)) are) c.apart.ensures
