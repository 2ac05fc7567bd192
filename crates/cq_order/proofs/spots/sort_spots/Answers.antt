use Rattle.std.proofs.Common.{rules}
use Rattle.std.proofs.lemmas.List.Sorted.{answers_always}
use Rattle.cq_order.specs.Spots.{SpotBefore, is_spot_before}
use Rattle.cq_order.proofs.Sorting.{order_of, sorted_pairs}
use Rattle.cq_order.proofs.Spotting.{is_spot_before-says, is_spot_before-order}
use Rattle.cq_order.proofs.spots.sort_spots.Goals as goal

pub returns : goal.returns
returns c =
    order_of SpotBefore _ _ c.sort_unstable_by.ensures.permutation
    (sorted_pairs SpotBefore is_spot_before _ is_spot_before-says is_spot_before-order (c.sort_unstable_by.ensures.sorted is_spot_before is_spot_before-order (answers_always _ _ _ (λ f a r h called. search rules))))
