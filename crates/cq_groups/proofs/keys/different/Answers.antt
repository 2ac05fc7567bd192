use Rattle.std.proofs.Common.{◌≡◌, sym, subst, eqb}
use Rattle.std.specs.Prelude.{Contains}
use Rattle.std.specs.List.{dedup}
use Rattle.std.proofs.lemmas.List.Filters.{dedup_is}
use Rattle.std.proofs.lemmas.List.Kept.{AllPairs-from_increasing, Contains-dedup_nat, Contains-from_dedup}
use Rattle.std.proofs.lemmas.List.Sorted.{IsPermutation-sym, Contains-permutation}
use Rattle.std.proofs.lemmas.Map.Keys.{IsStrictlyIncreasing-dedup}
use Rattle.cq_groups.specs.Listing.{AreAllRising}
use Rattle.cq_groups.proofs.keys.different.Goals as goal

pub returns : goal.returns
returns c =
    let old = c.args.keys.items in
    let sorted = c.sort_unstable.new.self.items in
    let is : c.dedup.new.self.items ≡ dedup eqb sorted = dedup_is eqb sorted c.dedup.new.self.items c.dedup.ensures.filtered in
    subst (AreAllRising (Contains old)) (sym is) (record {
      ordered = AllPairs-from_increasing (dedup eqb sorted) (IsStrictlyIncreasing-dedup sorted c.sort_unstable.ensures.sorted);
      each = λ k. (
        λ h. Contains-permutation sorted old k (IsPermutation-sym old sorted c.sort_unstable.ensures.permutation) (Contains-from_dedup eqb sorted k h),
        λ h. Contains-dedup_nat sorted k (Contains-permutation old sorted k c.sort_unstable.ensures.permutation h),
      );
    })
