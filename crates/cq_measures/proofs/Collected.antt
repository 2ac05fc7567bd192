-- What a closure gave at each of the first numbers, where all of it was Ok.
use Rattle.std.proofs.Common.{◌≡◌, ℕ, zero, suc, ◌+◌, ◌<◌, List, [], ◌∷◌, length, map, get_or, Global, Contains, refl, sym, subst, arith}
use Rattle.std.specs.Prelude.{Ok, Err, IfOk, MatchResult, Vec}
use Rattle.std.specs.List.{AllZip, range_with_len}
use Rattle.std.specs.declared.result.Result.{Result}

module _ {T : Type 0} (E : Type 0) (P : ℕ → T → Type 0) where
  abbrev oks : List T → List (Result T E)
  oks ys = map (λ y. Ok y) ys

  zipped : (a n : ℕ) (ys : List T) → AllZip (λ i x. IfOk x (P i)) (range_with_len a n) (oks ys) → (length ys ≡ n) × ((i : ℕ) (d : T) → i < n → P (a + i) (get_or ys i d))
  zipped a zero [] h = (refl, λ i d lt. absurd (omega (arith, lt)))
  zipped a zero (y ∷ ys) h = absurd h
  zipped a (suc n) [] h = absurd h
  zipped a (suc n) (y ∷ ys) h =
      let rest = zipped (a + 1) n ys h.1 in
      (let many = rest.0 in omega (arith, many), each h.0 rest.1)
    where
      each : P a y → ((i : ℕ) (d : T) → i < n → P (a + 1 + i) (get_or ys i d)) → (i : ℕ) (d : T) → i < suc n → P (a + i) (get_or (y ∷ ys) i d)
      each first more zero d lt = let here : a ≡ a + zero = omega arith in subst (λ k. P k y) here first
      each first more (suc i) d lt = let there : a + 1 + i ≡ a + suc i = omega arith in subst (λ k. P k (get_or ys i d)) there (more i d (omega (arith, lt)))

  -- there is one of each number, with what holds of it
  pub all_told : (n : ℕ) (numbers : List ℕ) (xs : List (Result T E)) (r : Result (Vec T Global) E) → numbers ≡ range_with_len 0 n → AllZip (λ i x. IfOk x (P i)) numbers xs →
      MatchResult r (λ v. (ys : List T) × (xs ≡ oks ys) × (v.items ≡ ys)) (λ e. Contains xs (Err e)) → IfOk r (λ v. (length v.items ≡ n) × ((i : ℕ) (d : T) → i < n → P i (get_or v.items i d)))
  all_told n numbers xs (Err e) is zip h = tt
  all_told n numbers xs (Ok v) is zip h =
      let each = zipped 0 n h.0 (subst (λ ms. AllZip (λ i x. IfOk x (P i)) ms (oks h.0)) is (subst (λ zs. AllZip (λ i x. IfOk x (P i)) numbers zs) h.1 zip)) in
      subst (λ zs. (length zs ≡ n) × ((i : ℕ) (d : T) → i < n → P i (get_or zs i d))) (sym h.2) (each.0, λ i d lt. from_zero i (each.1 i d lt))
    where
      from_zero : {y : T} (i : ℕ) → P (0 + i) y → P i y
      from_zero {y} i h = let same : 0 + i ≡ i = omega arith in subst (λ k. P k y) same h
