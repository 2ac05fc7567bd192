-- Groups that don't tie are in one order or the other, and a group is added once.
use Rattle.std.proofs.Common.{◌≡◌, ◌⊎◌, List, [], ◌∷◌, ◌++◌, refl, subst, sym, ◌∙◌, inl, inr, ⊎_elim}
use Rattle.std.specs.Prelude.{Contains, AllPairs, Any}
use Rattle.std.proofs.lemmas.Bool.{cases_order}
use Rattle.cq_base.specs.declared.group.Group.{Group}
use Rattle.cq_clones.specs.Groups.{ComesBefore}
use Rattle.cq_base.specs.Places.{first_place}
use Rattle.cq_clones.proofs.InOrder.{in_order_push}
use Rattle.cq_order.specs.Order.{AreOrdered}
use Rattle.cq_scan.specs.Found.{Adds, AreTied}
use Rattle.cq_scan.proofs.FoundGroups.{place_cases}

pub ordered_or_tied : (g h : Group) → AreOrdered ComesBefore g h ⊎ AreTied g h
ordered_or_tied g h =
    ⊎_elim
    (λ same. ⊎_elim (λ e. inr (same, e)) (λ other. ⊎_elim (λ lt. inl (inr (inr (sym same, lt)))) (λ gt. inl (inl (inr (same, gt)))) other) (cases_order g.tokens h.tokens))
    (λ other. ⊎_elim (λ lt. inl (inl (inl lt))) (λ gt. inl (inr (inl gt))) other)
    (place_cases (first_place g) (first_place h))

-- the group is there already
pub adds_there : (old : List Group) (group : Group) → AllPairs (AreOrdered ComesBefore) old → ((g : Group) → Contains old g → AreTied g group → g ≡ group) → Any (λ g. AreTied g group) old → Adds (λ g. group ≡ g) old old
adds_there old group ordered ties (k, x, within, at, tied) = record {
  ordered = ordered;
  each = λ z. (λ c. inl c, λ h. ⊎_elim (λ c. c) (λ e. subst (Contains old) (ties x (k, within, at) tied ∙ e) (k, within, at)) h);
}

-- a group that is not there comes after all others, for now
pub adds_new : (old : List Group) (group : Group) → AllPairs (AreOrdered ComesBefore) old → (Any (λ g. AreTied g group) old → ⊥) → Adds (λ g. group ≡ g) old (old ++ group ∷ [])
adds_new old group ordered new =
    in_order_push (AreOrdered ComesBefore) (Contains old) (λ g. Contains old g ⊎ (group ≡ g)) old group
    (record { ordered = ordered; each = λ z. (λ c. c, λ c. c) })
    (λ z c. ⊎_elim (λ h. h) (λ tied. absurd (new (c.0, z, c.1, c.2, tied))) (ordered_or_tied z group))
    (λ z c. inl c)
    (inr (refl))
    (λ z h. h)
