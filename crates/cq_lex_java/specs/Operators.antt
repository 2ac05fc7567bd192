-- Separators and operators (JLS 3.11, 3.12). Those of two and three greater signs are read as single ones, so that the
-- ends of type arguments read alike.
use Rattle.std.specs.Prelude.{ℕ, List, [], ◌∷◌, codes}

abbrev pub operators : List (List ℕ)
operators = codes "(" ∷ codes ")" ∷ codes "{" ∷ codes "}" ∷ codes "[" ∷ codes "]" ∷ codes ";" ∷ codes "," ∷ codes "." ∷ codes "..." ∷ codes "@" ∷ codes "::" ∷ codes "=" ∷ codes ">" ∷ codes "<" ∷ codes "!" ∷ codes "~" ∷ codes "?" ∷ codes ":" ∷ codes "->" ∷ codes "==" ∷ codes ">=" ∷ codes "<=" ∷ codes "!=" ∷ codes "&&" ∷ codes "||" ∷ codes "++" ∷ codes "--" ∷ codes "+" ∷ codes "-" ∷ codes "*" ∷ codes "/" ∷ codes "&" ∷ codes "|" ∷ codes "^" ∷ codes "%" ∷ codes "<<" ∷ codes "+=" ∷ codes "-=" ∷ codes "*=" ∷ codes "/=" ∷ codes "&=" ∷ codes "|=" ∷ codes "^=" ∷ codes "%=" ∷ codes "<<=" ∷ codes ">>=" ∷ codes ">>>=" ∷ []
