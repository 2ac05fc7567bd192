-- A language's scanner: its tables, and the rows that they find.
use Rattle.std.specs.Prelude.{◌≡◌, ◌↔◌, ℕ, Bool, true, false, not, List, ◌∷◌, map}
use Rattle.std.specs.Borrow.{Bor}
use Rattle.std.specs.List.{list_all}
use Rattle.cq_base.specs.declared.token.Class.TheVariants.{Ident}
use Rattle.cq_munch.specs.Automata.{Tables}
use Rattle.cq_munch.specs.ByLetter.{IsListedByLetter}
use Rattle.cq_munch.specs.Longest.{IsAmong}
use Rattle.cq_munch.specs.Pattern.{Pattern, Spells}
use Rattle.cq_munch.specs.Patterned.{Patterned, FitsRows}
use Rattle.cq_munch.specs.PlainNames.{plain_fits, IsItselfBelow}
use Rattle.cq_munch.specs.declared.element.Spell.{Spell}
use Rattle.cq_munch.specs.declared.element.Spell.TheVariants.{Token}

abbrev pub is_name : Spell → Bool
is_name (Token Ident) = true
is_name _ = false

-- the tables find just names and these other rows, of which none is a name; the reserved words are names
pub record IsScanner (stood : ℕ → ℕ) (name : Pattern) (words : List (List ℕ)) (others : Patterned) (kinds : List ℕ) (spells : List Spell) (t : Tables) : Type 0 where
  pub texts : List (List ℕ)
  pub state : ℕ
  pub fits : FitsRows ((Token Ident, name) ∷ others) texts spells t
  pub plain : plain_fits kinds t state 0 ≡ true
  pub itself : IsItselfBelow 128 stood
  pub words_named : (s : List ℕ) → IsAmong words s → Spells name (map stood s)
  pub no_names : list_all (λ (row : Spell × Pattern). not (is_name row.0)) others ≡ true

-- the lists by letter have just these words
abbrev pub AreListed : List (Bor (List (Bor (List ℕ)))) → List (List ℕ) → Type 0
AreListed by_letter words = (s : List ℕ) → IsListedByLetter by_letter s ↔ IsAmong words s
