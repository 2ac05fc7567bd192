-- Punctuators (ECMA-262 12.8), and the at sign of decorators, which are a proposal.
use Rattle.std.specs.Prelude.{ℕ, Bool, false, ◌&&◌, ◌==◌, List, [], ◌∷◌, codes}
use Rattle.std.specs.Char.{is_ascii_digit}

abbrev pub punctuators : List (List ℕ)
punctuators = codes "{" ∷ codes "}" ∷ codes "(" ∷ codes ")" ∷ codes "[" ∷ codes "]" ∷ codes "." ∷ codes "..." ∷ codes ";" ∷ codes "," ∷ codes "<" ∷ codes ">" ∷ codes "<=" ∷ codes ">=" ∷ codes "==" ∷ codes "!=" ∷ codes "===" ∷ codes "!==" ∷ codes "+" ∷ codes "-" ∷ codes "*" ∷ codes "/" ∷ codes "%" ∷ codes "**" ∷ codes "++" ∷ codes "--" ∷ codes "<<" ∷ codes ">>" ∷ codes ">>>" ∷ codes "&" ∷ codes "|" ∷ codes "^" ∷ codes "!" ∷ codes "~" ∷ codes "&&" ∷ codes "||" ∷ codes "??" ∷ codes "?" ∷ codes "?." ∷ codes ":" ∷ codes "=" ∷ codes "+=" ∷ codes "-=" ∷ codes "*=" ∷ codes "/=" ∷ codes "%=" ∷ codes "**=" ∷ codes "<<=" ∷ codes ">>=" ∷ codes ">>>=" ∷ codes "&=" ∷ codes "|=" ∷ codes "^=" ∷ codes "&&=" ∷ codes "||=" ∷ codes "??=" ∷ codes "=>" ∷ codes "@" ∷ []

-- a question mark, a point and a digit: there the punctuator `?.` does not begin
abbrev pub is_choice : List ℕ → Bool
is_choice (a ∷ b ∷ c ∷ s) = (a == 63) && ((b == 46) && is_ascii_digit c)
is_choice _ = false
