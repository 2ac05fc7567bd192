-- What is at the front of a text.
use Rattle.std.specs.Prelude.{ℕ, ◌==◌, Bool, false, List, [], ◌∷◌}

-- the character U+001A, and nothing else
abbrev pub is_end : List ℕ → Bool
is_end [] = false
is_end (c ∷ []) = c == 26
is_end (c ∷ d ∷ s) = false
