-- Counting on from a place of a list.
use Rattle.std.proofs.Common.{◌≡◌, ℕ, zero, suc, ◌+◌, Bool, cond, List, [], ◌∷◌, ◌++◌, take, drop, count_by, refl, ap, ◌∙◌, arith}
use Rattle.std.proofs.lemmas.List.Sums.{sum_by-append}

nothing : {X : Type 0} (n : ℕ) → let none : List X = [] in none ≡ take n none
nothing zero = refl
nothing (suc n) = refl

-- the first of a list, in two parts
pub take_further : {X : Type 0} (m n : ℕ) (xs : List X) → take (m + n) xs ≡ take m xs ++ take n (drop m xs)
take_further zero n xs = let e : 0 + n ≡ n = omega arith in ap (λ k. take k xs) e
take_further {X} (suc m) n [] = let e : suc m + n ≡ suc (m + n) = omega arith in ap (λ k. let none : List X = [] in take k none) e ∙ nothing n
take_further (suc m) n (x ∷ xs) =
    let e : suc m + n ≡ suc (m + n) = omega arith in ap (λ k. take k (x ∷ xs)) e ∙ ap (λ ys. x ∷ ys) (take_further m n xs)

pub count_further : {X : Type 0} (p : X → Bool) (m n : ℕ) (xs : List X) → count_by p (take (m + n) xs) ≡ count_by p (take m xs) + count_by p (take n (drop m xs))
count_further p m n xs = ap (count_by p) (take_further m n xs) ∙ sum_by-append (λ x. cond (p x) 1 0) (take m xs) (take n (drop m xs))
