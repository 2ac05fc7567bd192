-- Places once they are sorted.
use Rattle.std.proofs.Common.{◌≢◌, ◌⊎◌, List, get_or, inl, inr, ⊎_elim, arith}
use Rattle.std.proofs.lemmas.Bool.{cases_lt, cases_eq}
use Rattle.std.proofs.lemmas.List.Elements.{Contains-get_or}
use Rattle.cq_base.specs.declared.group.Place.{Place}
use Rattle.cq_clones.specs.Lists.{AreAllInOrder}
use Rattle.cq_clones.specs.Groups.{IsBefore}
use Rattle.cq_clones.proofs.Order.{IsBefore-cases}
use Rattle.cq_order.specs.Order.{AreOrdered, IsOrderOf}
use Rattle.cq_order.proofs.Sorting.{in_order_of}

is_before_or_not : (p q : Place) → IsBefore p q ⊎ (IsBefore p q → ⊥)
is_before_or_not p q =
    ⊎_elim
    (λ lt. inl (inl lt))
    (λ ge. ⊎_elim
    (λ same. ⊎_elim (λ below. inl (inr (same, below))) (λ past. inr (λ h. ⊎_elim (λ lt. omega (arith, lt, ge)) (λ (e, lt). omega (arith, lt, past)) h)) (cases_lt p.at q.at))
    (λ apart. inr (λ h. ⊎_elim (λ lt. omega (arith, lt, ge)) (λ (e, lt). apart e) h))
    (cases_eq p.file q.file))
    (cases_lt p.file q.file)

-- two places of which none is before the other are the same
pub ordered_of : (p q : Place) → p ≢ q → AreOrdered IsBefore p q
ordered_of p q other =
    ⊎_elim
    (λ h. inl h)
    (λ no. ⊎_elim (λ h. inr h) (λ also. absurd (other (IsBefore-cases p q no also))) (is_before_or_not q p))
    (is_before_or_not p q)

-- elements that are each there once, sorted, where the order tells all that differ apart
pub sorted_once : {X : Type 0} (Before : X → X → Type 0) (Is : X → Type 0) (xs ys : List X) → ((x y : X) → Is x → Is y → x ≢ y → AreOrdered Before x y) → AreAllInOrder (λ x y. x ≢ y) Is xs → IsOrderOf Before xs ys → AreAllInOrder Before Is ys
sorted_once Before Is xs ys cases once order =
    in_order_of Before Is xs ys
    (record {
      ordered = λ i j d lt within. cases (get_or xs i d) (get_or xs j d) ((once.each (get_or xs i d)).0 (Contains-get_or xs i d (omega (arith, lt, within)))) ((once.each (get_or xs j d)).0 (Contains-get_or xs j d within)) (once.ordered i j d lt within);
      each = once.each;
    })
    order

pub places_sorted : (Is : Place → Type 0) (xs ys : List Place) → AreAllInOrder (λ p q. p ≢ q) Is xs → IsOrderOf IsBefore xs ys → AreAllInOrder IsBefore Is ys
places_sorted Is xs ys once order = sorted_once IsBefore Is xs ys (λ p q a b other. ordered_of p q other) once order
