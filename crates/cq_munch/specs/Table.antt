-- A language's table, row by row.
use Rattle.std.specs.Prelude.{◌≡◌, ℕ, Bool, true, false, ◌⊎◌, ◌&&◌, ◌==◌, nat_lt, Option, Some, None, List, [], ◌∷◌, if◌then◌else◌}
use Rattle.cq_munch.specs.declared.element.Spell.{Spell}
use Rattle.cq_munch.specs.declared.element.Found.{Found}
use Rattle.cq_munch.specs.Language.{Language}

-- what a row's spellings are, and which they are
pub record Row : Type 1 where
  pub spell : Spell
  pub set : List ℕ → Type 0

abbrev pub InTable : List Row → Spell → List ℕ → Type 0
InTable [] spell s = ⊥
InTable (row ∷ rows) spell s = ((spell ≡ row.spell) × row.set s) ⊎ InTable rows spell s

-- the language that is just a table, with one mode
abbrev pub table : List Row → Language
table rows = record { tried = λ at mode text spell s. InTable rows spell s; mode_behind = λ mode spell s. mode }

-- the longer of two elements
abbrev pub better : Option Found → Option Found → Option Found
better None b = b
better (Some a) None = Some a
better (Some a) (Some b) = if nat_lt a.units b.units then Some b else Some a

-- the element of a row, from its longest spelling
abbrev pub found_of : Spell → ℕ → Option ℕ → Option Found
found_of spell mode None = None
found_of spell mode (Some n) = Some (record { spell = spell; units = n; mode = mode })

-- the text begins with this one
abbrev pub begins : List ℕ → List ℕ → Bool
begins [] text = true
begins (c ∷ cs) [] = false
begins (c ∷ cs) (d ∷ ds) = (d == c) && begins cs ds

-- the first character passes the test
abbrev pub starts : (ℕ → Bool) → List ℕ → Bool
starts test [] = false
starts test (c ∷ s) = test c
