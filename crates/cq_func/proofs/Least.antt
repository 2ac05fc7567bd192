-- The first of some places that passes: where it lies, that it passes, and that none before it does.
use Rattle.std.proofs.Common.{◌≡◌, ℕ, zero, suc, ◌+◌, ◌-◌, ◌<◌, ◌≤◌, Bool, true, false, cond, refl, sym, ap, ◌∙◌, ⊎_elim, arith}
use Rattle.std.proofs.lemmas.Bool.{cases_eq, cases_order, both_ways}
use Rattle.cq_func.specs.Places.{first_place, place_above, place_below}

cond_same : {X : Type 0} (a b : Bool) (x y z : X) → a ≡ b → y ≡ z → cond a x y ≡ cond b x z
cond_same a b x y z e f = cc

-- tests that agree on these places find the same
pub first_place-same : (p q : ℕ → Bool) (from many : ℕ) → ((j : ℕ) → from ≤ j → j < from + many → p j ≡ q j) → first_place p from many ≡ first_place q from many
first_place-same p q from zero same = refl
first_place-same p q from (suc many) same =
    cond_same (p from) (q from) from (first_place p (from + 1) many) (first_place q (from + 1) many)
    (same from (omega arith) (omega arith))
    (first_place-same p q (from + 1) many (λ j low high. same j (omega arith) (omega arith)))

between_cond : (b : Bool) (x y low high : ℕ) → low ≤ x → x ≤ high → low ≤ y → y ≤ high → (low ≤ cond b x y) × (cond b x y ≤ high)
between_cond true x y low high a b c d = (a, b)
between_cond false x y low high a b c d = (c, d)

pub first_place-within : (p : ℕ → Bool) (from many : ℕ) → (from ≤ first_place p from many) × (first_place p from many ≤ from + many)
first_place-within p from zero = (omega arith, omega arith)
first_place-within p from (suc many) =
    let rest = first_place-within p (from + 1) many in
    between_cond (p from) from (first_place p (from + 1) many) from (from + suc many) (omega arith) (omega arith) (omega (arith, rest.0)) (omega (arith, rest.1))

passes_cond : (p : ℕ → Bool) (b : Bool) (from rest top : ℕ) → p from ≡ b → (rest < top → p rest ≡ true) → cond b from rest < top → p (cond b from rest) ≡ true
passes_cond p true from rest top is later lt = is
passes_cond p false from rest top is later lt = later lt

pub first_place-passes : (p : ℕ → Bool) (from many top : ℕ) → top ≡ from + many → first_place p from many < top → p (first_place p from many) ≡ true
first_place-passes p from zero top is lt = absurd (omega arith)
first_place-passes p from (suc many) top is lt =
    passes_cond p (p from) from (first_place p (from + 1) many) top refl
    (λ below. first_place-passes p (from + 1) many top (omega arith) below) lt

least_cond : (p : ℕ → Bool) (b : Bool) (from rest j : ℕ) → p from ≡ b → (from + 1 ≤ j → j < rest → p j ≡ false) → from ≤ j → j < cond b from rest → p j ≡ false
least_cond p true from rest j is later low lt = absurd (omega arith)
least_cond p false from rest j is later low lt =
    ⊎_elim (λ (e : j ≡ from). ap p e ∙ is) (λ (ne : j ≡ from → ⊥). later (omega arith) lt) (cases_eq j from)

pub first_place-least : (p : ℕ → Bool) (from many j : ℕ) → from ≤ j → j < first_place p from many → p j ≡ false
first_place-least p from zero j low lt = absurd (omega arith)
first_place-least p from (suc many) j low lt =
    least_cond p (p from) from (first_place p (from + 1) many) j refl (λ above below. first_place-least p (from + 1) many j above below) low lt

-- one place more in front
pub first_place-step : (p : ℕ → Bool) (from many rest : ℕ) → many ≡ suc rest → first_place p from many ≡ cond (p from) from (first_place p (from + 1) rest)
first_place-step p from many rest is = ap (first_place p from) is

pub first_place-none : (p : ℕ → Bool) (from many : ℕ) → many ≡ 0 → first_place p from many ≡ from
first_place-none p from many is = ap (first_place p from) is

-- ---- above a place

pub place_above-same : (p q : ℕ → Bool) (at n : ℕ) → at < n → ((j : ℕ) → at < j → j < n → p j ≡ q j) → place_above p at n ≡ place_above q at n
place_above-same p q at n lt same = first_place-same p q (at + 1) (n - (at + 1)) (λ j low high. same j (omega arith) (omega arith))

pub place_above-within : (p : ℕ → Bool) (at n : ℕ) → at < n → (at < place_above p at n) × (place_above p at n ≤ n)
place_above-within p at n lt = let w = first_place-within p (at + 1) (n - (at + 1)) in (omega (arith, w.0), omega (arith, w.1))

pub place_above-passes : (p : ℕ → Bool) (at n : ℕ) → at < n → place_above p at n < n → p (place_above p at n) ≡ true
place_above-passes p at n lt found = first_place-passes p (at + 1) (n - (at + 1)) n (omega arith) found

pub place_above-least : (p : ℕ → Bool) (at n j : ℕ) → at < j → j < place_above p at n → p j ≡ false
place_above-least p at n j low high = first_place-least p (at + 1) (n - (at + 1)) j (omega arith) high

pub place_above-is : (p : ℕ → Bool) (at n k : ℕ) → at < n → at < k → k ≤ n → ((j : ℕ) → at < j → j < k → p j ≡ false) → (k < n → p k ≡ true) → k ≡ place_above p at n
place_above-is p at n k inside low high none passes =
    let w = place_above-within p at n inside in
    ⊎_elim
    (λ (e : place_above p at n ≡ k). sym e)
    (λ other. ⊎_elim
    (λ (lt : place_above p at n < k). absurd (both_ways (p (place_above p at n)) (none (place_above p at n) w.0 lt) (place_above-passes p at n inside (omega arith))))
    (λ (gt : k < place_above p at n). absurd (both_ways (p k) (place_above-least p at n k low gt) (passes (omega (arith, w.1)))))
    other)
    (cases_order (place_above p at n) k)

-- ---- below a place

pub place_below-same : (p q : ℕ → Bool) (n : ℕ) → ((j : ℕ) → j < n → p j ≡ q j) → place_below p n ≡ place_below q n
place_below-same p q n same = first_place-same p q 0 n (λ j low high. same j (omega arith))

pub place_below-passes : (p : ℕ → Bool) (n : ℕ) → place_below p n < n → p (place_below p n) ≡ true
place_below-passes p n found = first_place-passes p 0 n n (omega arith) found
