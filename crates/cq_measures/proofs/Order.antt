-- The order of extents, and when two are the same.
use Rattle.std.proofs.Common.{◌≡◌, true, arith}
use Rattle.std.specs.Cmp.{IsTotalOrder, IsEquivalence}
use Rattle.std.specs.Ordering.{eq_by_cmp}
use Rattle.std.proofs.lemmas.Cmp.{nat_cmp_total, then_total, on_total}
use Rattle.cq_measures.specs.declared.extent.Extent.{Extent}
use Rattle.cq_measures.specs.Extents.{same_extent}
use Rattle.cq_measures.specs.Sorted.{extent_cmp}

pub extent_cmp-total : IsTotalOrder extent_cmp
extent_cmp-total = then_total (on_total (λ e. e.file) nat_cmp_total) (then_total (on_total (λ e. e.first) nat_cmp_total) (on_total (λ e. e.last) nat_cmp_total))

pub same_extent-ties : (a b : Extent) → same_extent a b ≡ eq_by_cmp extent_cmp a b
same_extent-ties a b = grind arith

pub same_extent-is : (a b : Extent) → same_extent a b ≡ true → a ≡ b
same_extent-is a b h = grind arith

pub same_extent-laws : IsEquivalence same_extent
same_extent-laws = record {
  refl = λ a. grind arith;
  symm = λ a b. grind arith;
  congr = λ a b c h. grind arith;
}
