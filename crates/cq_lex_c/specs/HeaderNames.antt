-- Header names as they are written (C11 6.4.7): one or more characters in angle brackets or in double quotes.
use Rattle.std.specs.Prelude.{◌≡◌, ◌⊎◌, ◌↔◌, ℕ, ◌<◌, ◌==◌, List, [], ◌∷◌, ◌++◌, length, IsFalse}
use Rattle.std.specs.List.{AllByRecursion}
use Rattle.cq_lex_c.specs.Headers.{IsHeader}

-- neither a line feed, nor what closes
abbrev pub MayStand : ℕ → ℕ → Type 0
MayStand close c = IsFalse (c == 10) × IsFalse (c == close)

-- what begins it, one or more characters, and what closes it
abbrev pub IsEnclosed : ℕ → ℕ → List ℕ → Type 0
IsEnclosed begin close s = (body : List ℕ) × (s ≡ begin ∷ body ++ close ∷ []) × (0 < length body) × AllByRecursion (MayStand close) body

abbrev pub HeaderNamesAreEnclosed : Type 0
HeaderNamesAreEnclosed = (s : List ℕ) → IsHeader s ↔ (IsEnclosed 60 62 s ⊎ IsEnclosed 34 34 s)
