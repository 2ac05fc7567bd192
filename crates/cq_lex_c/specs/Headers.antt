-- Header names (C11 6.4.7).
use Rattle.std.specs.Prelude.{◌≡◌, ℕ, Bool, true, false, not, ◌==◌, ◌&&◌, if◌then◌else◌, List, [], ◌∷◌, IsTrue, IsFalse, MatchBool}
use Rattle.cq_munch.specs.Longest.{IsLongest}
use Rattle.cq_lex_c.specs.declared.header.Header.{Header}
use Rattle.cq_lex_c.specs.declared.header.Header.TheVariants as at

-- characters but a line feed, up to the first that closes, and no more; the flag says whether there is one before
abbrev pub EndsAt : ℕ → Bool → List ℕ → Type 0
EndsAt close some [] = ⊥
EndsAt close some (c ∷ s) = MatchBool (c == close) (IsTrue some × (s ≡ [])) (IsFalse (c == 10) × EndsAt close true s)

-- in angle brackets, or in double quotes, one or more characters
abbrev pub IsHeader : List ℕ → Type 0
IsHeader [] = ⊥
IsHeader (c ∷ s) = MatchBool (c == 60) (EndsAt 62 false s) (IsTrue (c == 34) × EndsAt 34 false s)

abbrev pub header_rest : Header → List ℕ → Type 0
header_rest at.Before s = IsHeader s
header_rest (at.Opened close some) s = EndsAt close some s
header_rest at.Closed s = s ≡ []

-- whether there is a header name at the front
abbrev pub closes : ℕ → Bool → List ℕ → Bool
closes close some [] = false
closes close some (c ∷ s) = if c == close then some else not (c == 10) && closes close true s

abbrev pub has_header : List ℕ → Bool
has_header [] = false
has_header (c ∷ s) = if c == 60 then closes 62 false s else (c == 34) && closes 34 false s

-- in mode 2 there is one, of this many characters
abbrev pub IsHeaderAt : ℕ → List ℕ → ℕ → Type 0
IsHeaderAt mode text n = IsTrue ((mode == 2) && has_header text) × IsLongest IsHeader text n
