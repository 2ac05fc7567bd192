-- A list whose elements are changed one by one.
use Rattle.std.proofs.Common.{◌≡◌, ℕ, zero, suc, ◌+◌, ◌<◌, List, [], ◌∷◌, ◌++◌, length, map, take, drop, get_or, set, refl, sym, ap, ap₂, ◌∙◌, arith}

module _ {X : Type 0} (f : X → X) where
  seam : (old : List X) (i : ℕ) (d : X) → i < length old → get_or (map f (take i old) ++ drop i old) i d ≡ get_or old i d
  seam [] i d within = absurd (omega (arith, within))
  seam (x ∷ old) zero d within = refl
  seam (x ∷ old) (suc i) d within = seam old i d (omega (arith, within))

  pub in_place_read : (old xs : List X) (i : ℕ) (d : X) → i < length old → xs ≡ map f (take i old) ++ drop i old → get_or xs i d ≡ get_or old i d
  in_place_read old xs i d within is = ap (λ ys. get_or ys i d) is ∙ seam old i d within

  -- the next element is changed
  changed : (old : List X) (i : ℕ) (d y : X) → i < length old → y ≡ f (get_or old i d) → set (map f (take i old) ++ drop i old) i y ≡ map f (take (suc i) old) ++ drop (suc i) old
  changed [] i d y within is = absurd (omega (arith, within))
  changed (x ∷ old) zero d y within is = ap (λ z. z ∷ old) is
  changed (x ∷ old) (suc i) d y within is = ap (λ zs. f x ∷ zs) (changed old i d y (omega (arith, within)) is)

  pub in_place_set : (old xs : List X) (i : ℕ) (d y : X) → i < length old → xs ≡ map f (take i old) ++ drop i old → y ≡ f (get_or old i d) → set xs i y ≡ map f (take (i + 1) old) ++ drop (i + 1) old
  in_place_set old xs i d y within was is =
      ap (λ zs. set zs i y) was ∙ changed old i d y within is ∙ ap (λ n. map f (take n old) ++ drop n old) (let e : suc i ≡ i + 1 = omega arith in e)

  -- it stays
  kept : (old : List X) (i : ℕ) (d : X) → i < length old → get_or old i d ≡ f (get_or old i d) → map f (take i old) ++ drop i old ≡ map f (take (suc i) old) ++ drop (suc i) old
  kept [] i d within is = absurd (omega (arith, within))
  kept (x ∷ old) zero d within is = ap (λ z. z ∷ old) is
  kept (x ∷ old) (suc i) d within is = ap (λ zs. f x ∷ zs) (kept old i d (omega (arith, within)) is)

  pub in_place_keep : (old xs : List X) (i : ℕ) (d : X) → i < length old → xs ≡ map f (take i old) ++ drop i old → get_or old i d ≡ f (get_or old i d) → xs ≡ map f (take (i + 1) old) ++ drop (i + 1) old
  in_place_keep old xs i d within was is = was ∙ kept old i d within is ∙ ap (λ n. map f (take n old) ++ drop n old) (let e : suc i ≡ i + 1 = omega arith in e)

  all_changed : (old : List X) (i : ℕ) → length old ≡ i → map f (take i old) ++ drop i old ≡ map f old
  all_changed [] i e = ap (λ n. map f (take n []) ++ drop n []) (sym e)
  all_changed (x ∷ old) zero e = absurd (omega (arith, e))
  all_changed (x ∷ old) (suc i) e = ap (λ zs. f x ∷ zs) (all_changed old i (omega (arith, e)))

  pub in_place_all : (old xs : List X) (i : ℕ) → length old ≡ i → xs ≡ map f (take i old) ++ drop i old → xs ≡ map f old
  in_place_all old xs i e is = is ∙ all_changed old i e

  -- all but one that was put at the end
  pub in_place_push : (old xs : List X) (n : ℕ) (x : X) → n ≡ length old → xs ≡ old ++ x ∷ [] → map f (take n xs) ++ drop n xs ≡ map f old ++ x ∷ []
  in_place_push old xs n x e is = ap₂ (λ m ys. map f (take m ys) ++ drop m ys) e is ∙ go old
    where
      go : (zs : List X) → map f (take (length zs) (zs ++ x ∷ [])) ++ drop (length zs) (zs ++ x ∷ []) ≡ map f zs ++ x ∷ []
      go [] = refl
      go (z ∷ zs) = ap (λ ys. f z ∷ ys) (go zs)
