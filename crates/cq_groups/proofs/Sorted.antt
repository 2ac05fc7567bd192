-- Groups that were each there once, sorted.
use Rattle.std.proofs.Common.{◌≡◌, ◌≢◌, ◌⊎◌, List, sym, ◌∙◌, inl, inr, ⊎_elim}
use Rattle.std.proofs.lemmas.Bool.{cases_Bool, true≢false}
use Rattle.cq_base.specs.declared.group.Group.{Group}
use Rattle.cq_clones.specs.Lists.{AreAllInOrder}
use Rattle.cq_clones.specs.Groups.{ComesBefore}
use Rattle.cq_base.specs.Places.{first_place}
use Rattle.cq_clones.proofs.Order.{ComesBefore-ties}
use Rattle.cq_order.specs.Order.{IsOrderOf, comes_before}
use Rattle.cq_order.proofs.Orders.{comes_before-says}
use Rattle.cq_groups.proofs.Places.{sorted_once}

group_or_not : (g h : Group) → ComesBefore g h ⊎ (ComesBefore g h → ⊥)
group_or_not g h = ⊎_elim (λ e. inl ((comes_before-says g h).0 e)) (λ e. inr (λ k. true≢false (sym ((comes_before-says g h).1 k) ∙ e))) (cases_Bool (comes_before g h))

-- groups of which no two agree in first place and length
pub groups_sorted : (Is : Group → Type 0) (xs ys : List Group) → ((g h : Group) → Is g → Is h → first_place g ≡ first_place h → g.tokens ≡ h.tokens → g ≡ h) → AreAllInOrder (λ g h. g ≢ h) Is xs → IsOrderOf ComesBefore xs ys → AreAllInOrder ComesBefore Is ys
groups_sorted Is xs ys same once order =
    sorted_once ComesBefore Is xs ys
    (λ g h a b other. ⊎_elim
    (λ first. inl first)
    (λ no. ⊎_elim (λ later. inr later) (λ also. let t = ComesBefore-ties g h no also in absurd (other (same g h a b t.0 t.1))) (group_or_not h g))
    (group_or_not g h))
    once order
