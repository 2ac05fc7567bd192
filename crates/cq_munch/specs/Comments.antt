-- Comments in slashes and stars, and after two slashes. They don't nest.
use Rattle.std.specs.Prelude.{◌≡◌, ℕ, ◌==◌, Bool, true, false, List, [], ◌∷◌, IsTrue, IsFalse, MatchBool}
use Rattle.std.specs.List.{AllByRecursion}
use Rattle.cq_munch.specs.LineEnds.{ends_line}
use Rattle.cq_munch.specs.Table.{Row}
use Rattle.cq_munch.specs.declared.element.Spell.TheVariants.{Comment}
use Rattle.cq_munch.specs.declared.ends.LineEnds.{LineEnds}

-- a character, and what has to follow it
abbrev pub IsAfter : ℕ → (List ℕ → Type 0) → List ℕ → Type 0
IsAfter c Follows [] = ⊥
IsAfter c Follows (d ∷ s) = IsTrue (d == c) × Follows s

-- characters that don't end a line
abbrev pub IsOneLine : LineEnds → List ℕ → Type 0
IsOneLine ends s = AllByRecursion (λ c. IsFalse (ends_line ends c)) s

-- two slashes, and characters that don't end a line
abbrev pub IsLineComment : LineEnds → List ℕ → Type 0
IsLineComment ends s = IsAfter 47 (IsAfter 47 (IsOneLine ends)) s

-- characters up to the first star followed by a slash, and no more; the flag says whether a star comes before them
abbrev pub EndsAtClose : Bool → List ℕ → Type 0
EndsAtClose star [] = ⊥
EndsAtClose true (c ∷ s) = MatchBool (c == 47) (s ≡ []) (EndsAtClose (c == 42) s)
EndsAtClose false (c ∷ s) = EndsAtClose (c == 42) s

-- a slash and a star, and then up to the first star followed by a slash
abbrev pub IsBlockComment : List ℕ → Type 0
IsBlockComment s = IsAfter 47 (IsAfter 42 (EndsAtClose false)) s

-- the rows of comments
abbrev pub blocks : List Row
blocks = record { spell = Comment; set = IsBlockComment } ∷ []

abbrev pub lines : LineEnds → List Row
lines ends = record { spell = Comment; set = IsLineComment ends } ∷ []
