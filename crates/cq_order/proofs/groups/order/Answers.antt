use Rattle.std.proofs.Common.{rules}
use Rattle.std.proofs.lemmas.List.Sorted.{answers_always}
use Rattle.cq_clones.specs.Groups.{ComesBefore}
use Rattle.cq_order.specs.Order.{comes_before}
use Rattle.cq_order.proofs.Sorting.{order_of, sorted_pairs}
use Rattle.cq_order.proofs.Orders.{comes_before-says, comes_before-order}
use Rattle.cq_order.proofs.groups.order.Goals as goal

pub returns : goal.returns
returns c =
    order_of ComesBefore _ _ c.in_ok-sort_by.ensures.permutation
    (sorted_pairs ComesBefore comes_before _ comes_before-says comes_before-order (c.in_ok-sort_by.ensures.sorted comes_before comes_before-order (answers_always _ _ _ (λ f a r h called. search rules))))
