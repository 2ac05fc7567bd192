-- The row of text blocks, which a table of its own scans, and a text that leads to each of its states but the first.
use Rattle.std.specs.Prelude.{ℕ, List, [], ◌∷◌, codes}
use Rattle.cq_munch.specs.Patterned.{Patterned}
use Rattle.cq_lex_java.specs.Blocks.{text_blocks}

abbrev pub scanned : Patterned
scanned = text_blocks

-- written by bench/tables
abbrev pub texts : List (List ℕ)
texts =
    codes "\"" ∷ codes "\"\"" ∷ codes "\"\"\"" ∷ (34 ∷ 34 ∷ 34 ∷ 10 ∷ []) ∷ (34 ∷ 34 ∷ 34 ∷ 10 ∷ 34 ∷ []) ∷ (34 ∷ 34 ∷ 34 ∷ 10 ∷ 92 ∷ []) ∷ (34 ∷ 34 ∷ 34 ∷ 10 ∷ 34 ∷ 34 ∷ []) ∷ (34 ∷ 34 ∷ 34 ∷ 10 ∷ 34 ∷ 34 ∷ 34 ∷ []) ∷ []
