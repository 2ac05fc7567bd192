-- Texts of one letter.
use Rattle.std.proofs.Common.{ℕ, zero, suc, ◌<◌, [], ◌∷◌, get_or, arith}
use Rattle.std.specs.Str.{IsUtf8}
use Rattle.std.proofs.lemmas.Str.{IsUtf8-from_ascii}
use Rattle.std.proofs.lemmas.Str.Ascii.{IsAscii-from_reads}

letter_reads : (b : ℕ) → b < 128 → (k : ℕ) → k < 1 → get_or (b ∷ []) k 0 < 128
letter_reads b few zero lt = few
letter_reads b few (suc k) lt = absurd (omega (arith, lt))

-- a letter below 128 is a text
pub letter_utf8 : (b : ℕ) → b < 128 → IsUtf8 (b ∷ [])
letter_utf8 b few = IsUtf8-from_ascii (b ∷ []) (IsAscii-from_reads (b ∷ []) 1 (omega arith) (letter_reads b few))
