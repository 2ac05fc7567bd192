-- The rows of a table by their patterns.
use Rattle.std.specs.Prelude.{◌≡◌, ℕ, true, List, [], ◌∷◌, map}
use Rattle.cq_munch.specs.Automata.{Tables, fits}
use Rattle.cq_munch.specs.Pattern.{Pattern, never, empty, ◌▸◌, ◌∣◌, only, Spells}
use Rattle.cq_munch.specs.Longest.{IsAmong}
use Rattle.cq_munch.specs.Table.{Row}
use Rattle.cq_munch.specs.declared.element.Spell.{Spell}
use Rattle.cq_munch.specs.declared.element.Spell.TheVariants.{Token}
use Rattle.cq_base.specs.declared.token.Class.TheVariants.{Ident, Word}

-- one word, character by character
abbrev pub one_word : List ℕ → Pattern
one_word [] = empty
one_word (c ∷ w) = only c ▸ one_word w

-- one of the words
abbrev pub any_word : List (List ℕ) → Pattern
any_word [] = never
any_word (w ∷ ws) = one_word w ∣ any_word ws

-- what each row is, and its pattern
abbrev pub Patterned : Type 0
Patterned = List (Spell × Pattern)

abbrev pub spells_of : Patterned → List Spell
spells_of rows = map (λ (row : Spell × Pattern). row.0) rows

abbrev pub patterns_of : Patterned → List Pattern
patterns_of rows = map (λ (row : Spell × Pattern). row.1) rows

abbrev pub rows_of : Patterned → List Row
rows_of [] = []
rows_of (row ∷ rows) = record { spell = row.0; set = Spells row.1 } ∷ rows_of rows

-- the same by what stands for their characters
abbrev pub rows_seen : (ℕ → ℕ) → Patterned → List Row
rows_seen stood [] = []
rows_seen stood (row ∷ rows) = record { spell = row.0; set = λ s. Spells row.1 (map stood s) } ∷ rows_seen stood rows

-- names, some of which are reserved words, and other rows
abbrev pub with_reserved : (ℕ → ℕ) → Pattern → List (List ℕ) → Patterned → List Row
with_reserved stood name words others =
    record { spell = Token Ident; set = λ s. Spells name (map stood s) × (IsAmong words s → ⊥) } ∷ record { spell = Token Word; set = IsAmong words } ∷ rows_seen stood others

-- the table finds just the spellings of these rows, in this order, and what they are
abbrev pub FitsRows : Patterned → List (List ℕ) → List Spell → Tables → Type 0
FitsRows rows texts spells t = (spells_of rows ≡ spells) × (fits (patterns_of rows) texts t ≡ true)
