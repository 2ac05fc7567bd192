-- The highest mark, as a loop finds it.
use Rattle.std.proofs.Common.{◌≡◌, ◌⊎◌, ℕ, ◌+◌, ◌<◌, ◌≤◌, List, length, get_or, take, sym, subst, ◌∙◌, ⊎_elim, arith, nat_cmp}
use Rattle.std.specs.Prelude.{All, Any}
use Rattle.std.specs.Ordering.{ord_max}
use Rattle.std.proofs.lemmas.List.{take_more, get_or_default, take_all}
use Rattle.std.proofs.lemmas.List.Elements.{All-push}
use Rattle.cq_clones.proofs.InOrder.{take_more_left, take_more_here}
use Rattle.cq_groups.specs.declared.spots.MarkedRow.{MarkedRow}

abbrev pub IsHighest : ℕ → List MarkedRow → Type 0
IsHighest m xs = All (λ x. x.mark ≤ m) xs × (0 < m → Any (λ x. x.mark ≡ m) xs)

max_cases : (a b n : ℕ) → n ≡ ord_max nat_cmp a b → (a ≤ n) × (b ≤ n) × ((n ≡ a) ⊎ (n ≡ b))
max_cases a b n e = grind arith

pub highest_more : (xs : List MarkedRow) (i m n : ℕ) (d : MarkedRow) → i < length xs → n ≡ ord_max nat_cmp m (get_or xs i d).mark → IsHighest m (take i xs) → IsHighest n (take (i + 1) xs)
highest_more xs i m n d lt is before =
    let x : MarkedRow = get_or xs i d in
    let h = max_cases m x.mark n is in
    let read : x ≡ get_or xs i x = get_or_default xs i d x lt in (
      subst (All (λ (z : MarkedRow). z.mark ≤ n)) (sym (take_more xs i d lt))
          (All-push (λ (z : MarkedRow). z.mark ≤ n) (take i xs) x (λ k e within. let b = before.0 k e within in omega (arith, b, h.0)) h.1),
      λ some. ⊎_elim
          (λ same. let (k, z, within, at, z_is) = before.1 (omega (arith, same)) in
          let c = take_more_left xs i x z lt read (k, within, at) in (c.0, z, c.1, c.2, z_is ∙ sym same))
          (λ new. let c = take_more_here xs i x lt read in (c.0, x, c.1, c.2, sym new))
          h.2,
    )

pub highest_all : (xs : List MarkedRow) (i m : ℕ) → length xs ≤ i → IsHighest m (take i xs) → IsHighest m xs
highest_all xs i m all h = subst (IsHighest m) (take_all i xs all) h
