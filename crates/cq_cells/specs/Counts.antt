-- What is known of the counts of cells. A count is in the upper 63 bits of the cell's word.
use Rattle.std.specs.Prelude.{◌≢◌, ℕ, ◌/◌, ◌≤◌, ◌==◌, max, List, [], ◌∷◌, slice_index, cond}
use Rattle.cq_cells.specs.Callers.{Each}

-- the greatest count that the cell k is known to have reached
abbrev pub least_of : ℕ → List (ℕ × ℕ) → ℕ
least_of k [] = 0
least_of k (x ∷ xs) = cond (k == x.0) (max x.1 (least_of k xs)) (least_of k xs)

-- beside it the cell k is known to have reached c. Nothing is noted of the board, whose count wraps
abbrev pub more_known : ℕ → ℕ → List (ℕ × ℕ) → List (ℕ × ℕ)
more_known k c known = cond (k == 0) known ((k, c) ∷ known)

-- what is known is true of the words
abbrev pub Reached : List ℕ → List (ℕ × ℕ) → Type 0
Reached words known = Each (λ x. (x.0 ≢ 0) × (x.1 ≤ slice_index words x.0 / 2)) known
