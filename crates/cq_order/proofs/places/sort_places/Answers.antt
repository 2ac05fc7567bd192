use Rattle.std.proofs.Common.{rules}
use Rattle.std.proofs.lemmas.List.Sorted.{answers_always}
use Rattle.cq_clones.specs.Groups.{IsBefore}
use Rattle.cq_order.specs.Order.{is_before}
use Rattle.cq_order.proofs.Sorting.{order_of, sorted_pairs}
use Rattle.cq_order.proofs.Orders.{is_before-says, is_before-order}
use Rattle.cq_order.proofs.places.sort_places.Goals as goal

pub returns : goal.returns
returns c =
    order_of IsBefore _ _ c.sort_unstable_by.ensures.permutation
    (sorted_pairs IsBefore is_before _ is_before-says is_before-order (c.sort_unstable_by.ensures.sorted is_before is_before-order (answers_always _ _ _ (λ f a r h called. search rules))))
