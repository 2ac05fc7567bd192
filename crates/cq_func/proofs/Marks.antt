-- Lists of marks, one a place.
use Rattle.std.proofs.Common.{◌≡◌, ℕ, ◌+◌, ◌<◌, List, [], ◌∷◌, ◌++◌, length, get_or, map, sym, ap, ◌∙◌, arith}
use Rattle.std.specs.List.{range_with_len}
use Rattle.std.proofs.lemmas.List.FromFn.{length-map-range_with_len, get_or-map-range_with_len, map-range_with_len_more}

pub marks_long : (f : ℕ → ℕ) (n : ℕ) (marks : List ℕ) → marks ≡ map f (range_with_len 0 n) → length marks ≡ n
marks_long f n marks is = ap length is ∙ length-map-range_with_len f 0 n

pub marks_each : (f : ℕ → ℕ) (n : ℕ) (marks : List ℕ) → marks ≡ map f (range_with_len 0 n) → (j : ℕ) → j < n → get_or marks j 0 ≡ f j
marks_each f n marks is j below = ap (λ xs. get_or xs j 0) is ∙ get_or-map-range_with_len f 0 n j j 0 below (omega arith)

-- one mark more
pub marks_more : (f : ℕ → ℕ) (n : ℕ) (marks : List ℕ) (mark : ℕ) → marks ≡ map f (range_with_len 0 n) → mark ≡ f n → marks ++ mark ∷ [] ≡ map f (range_with_len 0 (n + 1))
marks_more f n marks mark so_far is =
    ap (λ xs. xs ++ mark ∷ []) so_far ∙ ap (λ m. map f (range_with_len 0 n) ++ m ∷ []) is ∙ sym (map-range_with_len_more f 0 n n (omega arith))
