-- Counts of events, modulo what a word holds.
use Rattle.std.proofs.Common.{◌≡◌, ℕ, ◌+◌, ◌%◌, ◌^◌, List, [], ◌∷◌, ◌++◌, length, arith, length-append}

-- one event more
pub one_more : {E : Type 0} (seen : List E) (e : E) (a b : ℕ) → a ≡ length seen % 2 ^ 64 → b ≡ (a + 1) % 2 ^ 64 → b ≡ length (seen ++ e ∷ []) % 2 ^ 64
one_more seen e a b h k = let long = length-append seen (e ∷ []) in omega (arith, h, k, long)

-- of a count modulo 2^64, what the word's upper bits hold
pub upper_bits : (a b n : ℕ) → a ≡ n % 2 ^ 64 → b ≡ a % 2 ^ 63 → b ≡ n % 2 ^ 63
upper_bits a b n h k = omega (arith, h, k)
