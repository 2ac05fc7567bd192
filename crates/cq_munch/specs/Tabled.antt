-- A language by its table: the rows that are tried in each mode, before each text.
use Rattle.std.specs.Prelude.{◌≡◌, ℕ, Bool, true, false, Option, List, [], ◌∷◌, slice_index_or}
use Rattle.cq_munch.specs.Language.{Language, Takes, marked}
use Rattle.cq_munch.specs.Table.{Row, InTable, table, starts}
use Rattle.cq_munch.specs.declared.element.Found.{Found}
use Rattle.cq_munch.specs.declared.element.Spell.{Spell}
use Rattle.cq_munch.specs.declared.element.Spell.TheVariants.{Blank}

-- what some rows allow at the front of a text, with the mode before it
abbrev pub RowsTake : List Row → ℕ → List ℕ → Option Found → Type 0
RowsTake rows mode text r = Takes (table rows) 0 mode text r

-- just this character
abbrev pub sign : Spell → ℕ → Row
sign spell c = record { spell = spell; set = λ s. s ≡ c ∷ [] }

-- the first rows if a test passes, and else the others
abbrev pub pick : Bool → List Row → List Row → List Row
pick true own others = own
pick false own others = others

-- the rows beside the first test that passes, or these if none does
abbrev pub tried : List (Bool × List Row) → List Row → List Row
tried [] rows = rows
tried (own ∷ more) rows = pick own.0 own.1 (tried more rows)

-- A blank of one character comes before all rows.
abbrev pub with_blanks : (ℕ → ℕ → Bool) → (ℕ → List ℕ → List Row) → ℕ → List ℕ → List Row
with_blanks is_blank rows mode text = pick (starts (is_blank mode) text) (sign Blank (slice_index_or text 0 0) ∷ []) (rows mode text)

-- the language of these blanks and rows, with the mode after an element; a byte order mark comes before them
abbrev pub unmarked_of : (ℕ → ℕ → Bool) → (ℕ → List ℕ → List Row) → (ℕ → Spell → List ℕ → ℕ) → Language
unmarked_of is_blank rows behind = record { tried = λ at mode text spell s. InTable (with_blanks is_blank rows mode text) spell s; mode_behind = behind }

abbrev pub language_of : (ℕ → ℕ → Bool) → (ℕ → List ℕ → List Row) → (ℕ → Spell → List ℕ → ℕ) → Language
language_of is_blank rows behind = marked (unmarked_of is_blank rows behind)

-- the mode stays as it is
abbrev pub stays : ℕ → Spell → List ℕ → ℕ
stays mode spell s = mode
