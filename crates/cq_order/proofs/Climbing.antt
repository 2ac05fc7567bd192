-- Whole numbers that rise strictly: between two places they rise by as much as the places differ, or more.
use Rattle.std.proofs.Common.{◌≡◌, ℕ, zero, suc, ◌+◌, ◌-◌, ◌<◌, ◌≤◌, List, length, get_or, ap, arith}
use Rattle.std.specs.Prelude.{AllPairs}

risen : {X : Type 0} (n : X → ℕ) (xs : List X) (d : X) → AllPairs (λ a b. n a < n b) xs → (i m : ℕ) → i + m < length xs → n (get_or xs i d) + m ≤ n (get_or xs (i + m) d)
risen n xs d rising i zero within =
    let same : n (get_or xs i d) ≡ n (get_or xs (i + 0) d) = ap (λ k. n (get_or xs k d)) (omega arith) in
    omega (arith, same)
risen n xs d rising i (suc m) within =
    let before = risen n xs d rising i m (omega (arith, within)) in
    let step : n (get_or xs (i + m) d) < n (get_or xs (i + suc m) d) = rising (i + m) (i + suc m) d (omega arith) within in
    omega (arith, before, step)

-- what stands at a place is no nearer to the first than the places are
pub risen_first : {X : Type 0} (n : X → ℕ) (xs : List X) (d : X) → AllPairs (λ a b. n a < n b) xs → (k : ℕ) → k < length xs → n (get_or xs 0 d) + k ≤ n (get_or xs k d)
risen_first n xs d rising k within =
    let h = risen n xs d rising 0 k (omega (arith, within)) in
    let same : n (get_or xs (0 + k) d) ≡ n (get_or xs k d) = ap (λ j. n (get_or xs j d)) (omega arith) in
    omega (arith, h, same)

-- nor to the last
pub risen_last : {X : Type 0} (n : X → ℕ) (xs : List X) (d : X) → AllPairs (λ a b. n a < n b) xs → (k : ℕ) → k < length xs → n (get_or xs k d) + (length xs - 1 - k) ≤ n (get_or xs (length xs - 1) d)
risen_last n xs d rising k within =
    let h = risen n xs d rising k (length xs - 1 - k) (omega (arith, within)) in
    let same : n (get_or xs (k + (length xs - 1 - k)) d) ≡ n (get_or xs (length xs - 1) d) = ap (λ j. n (get_or xs j d)) (omega (arith, within)) in
    omega (arith, h, same)
