-- Tests of a character.
use Rattle.std.proofs.Common.{◌≡◌, ℕ, Bool, true, false, ◌==◌, ap, ◌∙◌, ⊎_elim}
use Rattle.std.proofs.lemmas.Bool.{eqb-true, cases_Bool, both_ways}

-- what passes a test is no character that doesn't
pub apart_by : (test : ℕ → Bool) (n : ℕ) → test n ≡ false → (c : ℕ) → test c ≡ true → (c == n) ≡ false
apart_by test n fails c passes = ⊎_elim other (λ no. no) (cases_Bool (c == n))
  where
    other : (c == n) ≡ true → (c == n) ≡ false
    other same = absurd (both_ways (test c) (ap test (eqb-true c n same) ∙ fails) passes)
