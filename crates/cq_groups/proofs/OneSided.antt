-- One number for all elements.
use Rattle.std.proofs.Common.{◌≡◌, ◌↔◌, ℕ, ◌<◌, Bool, IsTrue, List, length, get_or, sym, ◌∙◌, subst}
use Rattle.std.specs.Prelude.{All}

-- the number of the first element is the one, if there is one
pub one_number : {X : Type 0} (f : X → ℕ) (xs : List X) (b : Bool) (n : ℕ) (d : X) → 0 < length xs → n ≡ f (get_or xs 0 d) → IsTrue b ↔ ((0 < n) × All (λ x. f x ≡ n) xs) → IsTrue b ↔ ((m : ℕ) × (0 < m) × All (λ x. f x ≡ m) xs)
one_number {X} f xs b n d some is answer = (
  λ yes. let h = answer.0 yes in (n, h.0, h.1),
  λ (m, positive, all).
      let e : n ≡ m = is ∙ all 0 d some in
      answer.1 (subst (λ (k : ℕ). (0 < k) × All (λ (x : X). f x ≡ k) xs) (sym e) (positive, all)),
)
