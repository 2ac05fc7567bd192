use Rattle.std.proofs.lemmas.List.Filters.{dedup_is}
use Rattle.std.proofs.lemmas.List.Kept.{IsStrictlySortedBy-dedup, Contains-dedup, Contains-from_dedup}
use Rattle.std.proofs.lemmas.List.Sorted.{Contains-permutation, IsPermutation-sym}
use Rattle.cq_measures.proofs.Order.{extent_cmp-total, same_extent-ties, same_extent-is, same_extent-laws}
use Rattle.cq_measures.proofs.counting.sort_once.Goals as goal

pub returns : goal.returns
returns c =
    let is = dedup_is _ _ _ c.dedup.ensures.filtered in
    let moved = c.sort_unstable.ensures.permutation in
    record {
      ordered = rw is (IsStrictlySortedBy-dedup extent_cmp-total same_extent-ties _ c.sort_unstable.ensures.sorted);
      each = λ e. (
        λ h. Contains-permutation _ _ e (IsPermutation-sym _ _ moved) (Contains-from_dedup _ _ e (rw is at h)),
        λ h. rw is (Contains-dedup same_extent-laws same_extent-is _ e (Contains-permutation _ _ e moved h)),
      );
    }
