-- The numbers of a kind among those below a bound, as they are gathered from 0 on.
use Rattle.std.proofs.Common.{◌≡◌, ℕ, suc, ◌+◌, ◌-◌, ◌<◌, Bool, true, false, cond, List, [], ◌∷◌, ◌++◌, filter, refl, ap, ◌∙◌, sym, arith}
use Rattle.std.proofs.lemmas.List.{append_assoc}
use Rattle.std.specs.List.{range_with_len}

-- the first of the numbers that are left, and those after it
range_front : (i n : ℕ) → i < n → range_with_len i (n - i) ≡ i ∷ range_with_len (i + 1) (n - (i + 1))
range_front i n h = let e : n - i ≡ suc (n - (i + 1)) = omega arith in rw e refl

filter_front : (is : ℕ → Bool) (i n : ℕ) → i < n → filter is (range_with_len i (n - i)) ≡ cond (is i) (i ∷ filter is (range_with_len (i + 1) (n - (i + 1)))) (filter is (range_with_len (i + 1) (n - (i + 1))))
filter_front is i n h = ap (filter is) (range_front i n h)

-- the next number is of the kind, or it isn't
pub gathered_with : (is : ℕ → Bool) (done all : List ℕ) (i n : ℕ) → i < n → is i ≡ true → done ++ filter is (range_with_len i (n - i)) ≡ all → (done ++ i ∷ []) ++ filter is (range_with_len (i + 1) (n - (i + 1))) ≡ all
gathered_with is done all i n h holds e =
    let rest = filter is (range_with_len (i + 1) (n - (i + 1))) in
    let front : filter is (range_with_len i (n - i)) ≡ i ∷ rest = filter_front is i n h ∙ ap (λ b. cond b (i ∷ rest) rest) holds in
    append_assoc done (i ∷ []) rest ∙ sym (ap (λ xs. done ++ xs) front) ∙ e

pub gathered_without : (is : ℕ → Bool) (done all : List ℕ) (i n : ℕ) → i < n → is i ≡ false → done ++ filter is (range_with_len i (n - i)) ≡ all → done ++ filter is (range_with_len (i + 1) (n - (i + 1))) ≡ all
gathered_without is done all i n h fails e =
    let rest = filter is (range_with_len (i + 1) (n - (i + 1))) in
    let front : filter is (range_with_len i (n - i)) ≡ rest = filter_front is i n h ∙ ap (λ b. cond b (i ∷ rest) rest) fails in
    sym (ap (λ xs. done ++ xs) front) ∙ e
