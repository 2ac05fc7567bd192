-- The rows of JSX that a table of its own scans, and a text that leads to each of its states but the first.
use Rattle.std.specs.Prelude.{ℕ, List, [], ◌∷◌, codes}
use Rattle.cq_munch.specs.Patterned.{Patterned}
use Rattle.cq_lex_js.specs.Jsx.{children}

abbrev pub scanned : Patterned
scanned = children

-- written by bench/tables
abbrev pub texts : List (List ℕ)
texts =
    codes "0" ∷ codes "<" ∷ codes "{" ∷ codes " " ∷ codes "0 " ∷ codes "</" ∷ codes "< " ∷ codes "</a" ∷ codes "</a." ∷ codes "</a " ∷ codes "</a.a" ∷ []
