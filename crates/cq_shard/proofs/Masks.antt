-- A remainder by a power of two is a mask.
use Rattle.std.proofs.Common.{◌≡◌, ℕ, ◌-◌, ◌%◌, ◌∙◌, sym, ap}
use Rattle.std.specs.Int.{IsPowerOfTwo}
use Rattle.std.specs.Int.Bits.{bit_and}
use Rattle.std.proofs.lemmas.Nat.{and_mask}

pub mask_is_remainder : (n power : ℕ) → IsPowerOfTwo power → bit_and n (power - 1) ≡ n % power
mask_is_remainder n power (k, is) = ap (λ p. bit_and n (p - 1)) is ∙ and_mask n k ∙ ap (λ p. n % p) (sym is)
