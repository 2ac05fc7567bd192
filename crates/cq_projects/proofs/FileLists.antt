-- The files that are held, as files.
use Rattle.std.proofs.Common.{◌≡◌, ℕ, zero, suc, ◌+◌, ◌<◌, Bool, true, false, cond, not, List, [], ◌∷◌, length, map, get_or, refl, sym, ap, arith}
use Rattle.std.specs.List.{filter, insert, remove, position_or_len}
use Rattle.std.proofs.lemmas.List.Sums.{position_or_len_is}

pub filter-map : {X Y : Type 0} (p : Y → Bool) (f : X → Y) (xs : List X) → filter p (map f xs) ≡ map f (filter (λ x. p (f x)) xs)
filter-map p f [] = refl
filter-map p f (x ∷ xs) =
    elim (p (f x)) as (λ b. cond b (f x ∷ filter p (map f xs)) (filter p (map f xs)) ≡ map f (cond b (x ∷ filter (λ z. p (f z)) xs) (filter (λ z. p (f z)) xs)))
    [ true ↦ ap (λ ys. f x ∷ ys) (filter-map p f xs) | false ↦ filter-map p f xs ]

pub position_or_len-map : {X Y : Type 0} (p : Y → Bool) (f : X → Y) (xs : List X) → position_or_len p (map f xs) ≡ position_or_len (λ x. p (f x)) xs
position_or_len-map p f [] = refl
position_or_len-map p f (x ∷ xs) = ap (λ n. cond (not (p (f x))) (1 + n) 0) (position_or_len-map p f xs)

pub position_none : {X : Type 0} (p : X → Bool) (xs : List X) → ((k : ℕ) (d : X) → k < length xs → p (get_or xs k d) ≡ false) → length xs ≡ position_or_len p xs
position_none p [] none = refl
position_none p (x ∷ xs) none = sym (position_or_len_is p (x ∷ xs) (length (x ∷ xs)) x (omega arith) (λ k lt. none k x lt) (λ past. absurd (omega (arith, past))))

pub insert-map : {X Y : Type 0} (f : X → Y) (xs : List X) (n : ℕ) (y : X) → map f (insert xs n y) ≡ insert (map f xs) n (f y)
insert-map f xs zero y = refl
insert-map f [] (suc n) y = refl
insert-map f (x ∷ xs) (suc n) y = ap (λ ys. f x ∷ ys) (insert-map f xs n y)

pub remove-map : {X Y : Type 0} (f : X → Y) (xs : List X) (n : ℕ) → map f (remove xs n) ≡ remove (map f xs) n
remove-map f [] zero = refl
remove-map f [] (suc n) = refl
remove-map f (x ∷ xs) zero = refl
remove-map f (x ∷ xs) (suc n) = ap (λ ys. f x ∷ ys) (remove-map f xs n)
