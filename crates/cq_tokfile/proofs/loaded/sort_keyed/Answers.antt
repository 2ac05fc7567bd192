use Rattle.std.proofs.Common.{rules}
use Rattle.std.proofs.lemmas.List.Sorted.{answers_always}
use Rattle.cq_order.proofs.Sorting.{order_of, sorted_pairs}
use Rattle.cq_tokfile.specs.Loaded.{KeyedBefore, is_keyed_before}
use Rattle.cq_tokfile.proofs.Indexing.{is_keyed_before-says, is_keyed_before-order}
use Rattle.cq_tokfile.proofs.loaded.sort_keyed.Goals as goal

pub returns : goal.returns
returns c =
    order_of KeyedBefore _ _ c.sort_unstable_by.ensures.permutation
    (sorted_pairs KeyedBefore is_keyed_before _ is_keyed_before-says is_keyed_before-order (c.sort_unstable_by.ensures.sorted is_keyed_before is_keyed_before-order (answers_always _ _ _ (λ f a r h called. search rules))))
