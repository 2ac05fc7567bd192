-- Beginnings of one list.
use Rattle.std.proofs.Common.{◌≡◌, ◌⊎◌, ◌≤◌, ◌<◌, List, [], ◌∷◌, ◌++◌, length, refl, ap, sym, ◌∙◌, subst, inl, inr, arith, append_assoc, length-append, cond, lt-ltb, le-ltb, lt_of_not-le}
use mathlib.Core.Logic.{dite}
use mathlib.Core.List.{IsPrefix}
use native.Mathlib.Decide.{dec_le}
use Rattle.cq_cells.specs.Callers.{longer}

pub prefix_self : {A : Type 0} (xs : List A) → IsPrefix xs xs
prefix_self [] = ([], refl)
prefix_self (x ∷ xs) = (let r = prefix_self xs in r.0, ap (λ ys. x ∷ ys) (prefix_self xs).1)

pub prefix_trans : {A : Type 0} (xs ys zs : List A) → IsPrefix xs ys → IsPrefix ys zs → IsPrefix xs zs
prefix_trans xs ys zs p q = (p.0 ++ q.0, sym (append_assoc xs p.0 q.0) ∙ (ap (λ w. w ++ q.0) p.1 ∙ q.1))

pub prefix_shorter : {A : Type 0} (xs ys zs : List A) → IsPrefix xs zs → IsPrefix ys zs → length xs ≤ length ys → IsPrefix xs ys
prefix_shorter [] ys zs p q le = (ys, refl)
prefix_shorter (x ∷ xs) [] zs p q le = absurd (omega arith)
prefix_shorter (x ∷ xs) (y ∷ ys) [] p q le = absurd (cc (p.1))
prefix_shorter (x ∷ xs) (y ∷ ys) (z ∷ zs) p q le =
    let heads : x ≡ y = cc (p.1, q.1) in
    let rest = prefix_shorter xs ys zs (p.0, cc (p.1)) (q.0, cc (q.1)) (omega arith) in
    (rest.0, cc (heads, rest.1))

pub prefix_whole : {A : Type 0} (xs ys : List A) → IsPrefix xs ys → length ys ≤ length xs → xs ≡ ys
prefix_whole [] [] p le = refl
prefix_whole [] (y ∷ ys) p le = absurd (omega arith)
prefix_whole (x ∷ xs) [] p le = absurd (cc (p.1))
prefix_whole (x ∷ xs) (y ∷ ys) p le =
    let rest = prefix_whole xs ys (p.0, cc (p.1)) (omega arith) in cc (p.1, rest)

pub prefix_length : {A : Type 0} (xs ys : List A) → IsPrefix xs ys → length xs ≤ length ys
prefix_length xs ys p = omega (arith, sym (ap length p.1) ∙ length-append xs p.0)

pub longer_case : {A : Type 0} (xs ys : List A) (P : List A → Type 0) → (length xs < length ys → P ys) → (length ys ≤ length xs → P xs) → P (longer xs ys)
longer_case xs ys P more less = dite (dec_le (length ys) (length xs)) (λ le. subst (λ b. P (cond b ys xs)) (sym (le-ltb (length xs) (length ys) le)) (less le))
    (λ not. subst (λ b. P (cond b ys xs)) (sym (lt-ltb (length xs) (length ys) (lt_of_not-le not))) (more (lt_of_not-le not)))

-- the longer of two beginnings, of which one is the whole, is the whole
pub longer_whole : {A : Type 0} (xs ys zs : List A) → IsPrefix xs zs → IsPrefix ys zs → (xs ≡ zs) ⊎ (ys ≡ zs) → longer xs ys ≡ zs
longer_whole xs ys zs p q (inl e) = longer_case xs ys (λ l. l ≡ zs) (λ more. prefix_whole ys zs q (let n = ap length e in omega arith)) (λ _. e)
longer_whole xs ys zs p q (inr e) = longer_case xs ys (λ l. l ≡ zs) (λ _. e) (λ less. prefix_whole xs zs p (let n = ap length e in omega arith))

pub one_begins : {A : Type 0} (xs ys zs : List A) → IsPrefix xs zs → IsPrefix ys zs → IsPrefix xs ys ⊎ IsPrefix ys xs
one_begins xs ys zs p q = dite (dec_le (length xs) (length ys)) (λ le. inl (prefix_shorter xs ys zs p q le)) (λ not. inr (prefix_shorter ys xs zs q p (let l = lt_of_not-le not in omega arith)))

pub left_longer : {A : Type 0} (xs ys zs : List A) → IsPrefix xs zs → IsPrefix ys zs → IsPrefix xs (longer xs ys)
left_longer xs ys zs p q = longer_case xs ys (λ l. IsPrefix xs l) (λ more. prefix_shorter xs ys zs p q (omega arith)) (λ _. prefix_self xs)

pub right_longer : {A : Type 0} (xs ys zs : List A) → IsPrefix xs zs → IsPrefix ys zs → IsPrefix ys (longer xs ys)
right_longer xs ys zs p q = longer_case xs ys (λ l. IsPrefix ys l) (λ _. prefix_self ys) (λ less. prefix_shorter ys xs zs q p less)
