use Rattle.std.proofs.Common.{rules}
use Rattle.std.proofs.lemmas.List.Sorted.{answers_always}
use Rattle.cq_clones.specs.Windows.{EntryBefore}
use Rattle.cq_order.specs.Order.{is_entry_before}
use Rattle.cq_order.proofs.Sorting.{order_of, sorted_pairs}
use Rattle.cq_order.proofs.Orders.{is_entry_before-says, is_entry_before-order}
use Rattle.cq_order.proofs.entries.sort_entries.Goals as goal

pub returns : goal.returns
returns c =
    order_of EntryBefore _ _ c.sort_unstable_by.ensures.permutation
    (sorted_pairs EntryBefore is_entry_before _ is_entry_before-says is_entry_before-order (c.sort_unstable_by.ensures.sorted is_entry_before is_entry_before-order (answers_always _ _ _ (λ f a r h called. search rules))))
