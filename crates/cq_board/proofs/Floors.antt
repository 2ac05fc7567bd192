-- Floors that no open view is below.
use Rattle.std.proofs.Common.{ℕ, suc, ◌≤◌, List, [], ◌∷◌, fold, min, Option, Some, None, arith}
use Rattle.std.specs.Prelude.{All}
use Rattle.std.proofs.lemmas.List.Elements.{All-nil, All-cons}
use Rattle.cq_history.specs.Lawful.{IsBelow}
use Rattle.cq_board.specs.Answers.{lower}

below_both : (f v p : ℕ) → f ≤ min v p → (f ≤ v) × (f ≤ p)
below_both f v p le = grind arith

below_min : (f v p : ℕ) → f ≤ v → f ≤ p → f ≤ min v p
below_min f v p le also = grind arith

pub fits_all : (f v : ℕ) (views : List (Option ℕ)) → f ≤ fold lower v views → (f ≤ v) × All (IsBelow f) views
fits_all f v [] le = (le, All-nil (IsBelow f))
fits_all f v (None ∷ views) le = let rest = fits_all f v views le in (rest.0, All-cons (IsBelow f) None views tt rest.1)
fits_all f v (Some p ∷ views) le =
    let rest = fits_all f (min v p) views le in
    let both = below_both f v p rest.0 in
    (both.0, All-cons (IsBelow f) (Some p) views both.1 rest.1)

pub all_fit : (f v : ℕ) (views : List (Option ℕ)) → f ≤ v → All (IsBelow f) views → f ≤ fold lower v views
all_fit f v [] le below = le
all_fit f v (None ∷ views) le below = all_fit f v views le (λ k d lt. below (suc k) d (omega (arith, lt)))
all_fit f v (Some p ∷ views) le below = all_fit f (min v p) views (below_min f v p le (below 0 None (omega arith))) (λ k d lt. below (suc k) d (omega (arith, lt)))
