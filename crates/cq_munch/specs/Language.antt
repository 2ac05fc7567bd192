-- A language's tables, and the element that they allow at a place.
use Rattle.std.specs.Prelude.{◌≡◌, ℕ, zero, Bool, false, ◌==◌, MatchBool, Option, Some, None, List, [], ◌∷◌, take}
use Rattle.cq_munch.specs.Longest.{IsLongest, LongestAt}
use Rattle.cq_munch.specs.declared.element.Spell.{Spell}
use Rattle.cq_munch.specs.declared.element.Spell.TheVariants.{Blank}
use Rattle.cq_munch.specs.declared.element.Found.{Found}

pub record Language : Type 1 where
  -- the rows that are tried at a unit, in a mode, before the characters that are left: what they spell, and as what
  pub tried : ℕ → ℕ → List ℕ → Spell → List ℕ → Type 0
  -- the mode after an element of this spelling
  pub mode_behind : ℕ → Spell → List ℕ → ℕ

-- A byte order mark that is the first character of a text is a blank, and no row is tried there.
abbrev pub has_mark : ℕ → List ℕ → Bool
has_mark zero (c ∷ cs) = c == 65279
has_mark at text = false

abbrev pub marked : Language → Language
marked lang = record {
  tried = λ at mode text spell s. MatchBool (has_mark at text) ((spell ≡ Blank) × (s ≡ 65279 ∷ [])) (lang.tried at mode text spell s);
  mode_behind = lang.mode_behind;
}

-- a row that is tried there has the spelling
abbrev pub Allows : Language → ℕ → ℕ → List ℕ → List ℕ → Type 0
Allows lang at mode text s = (spell : Spell) × lang.tried at mode text spell s

-- The element at a place is the longest spelling that a row allows there, or nothing if no row allows one.
abbrev pub Takes : Language → ℕ → ℕ → List ℕ → Option Found → Type 0
Takes lang at mode text None = LongestAt (Allows lang at mode text) text None
Takes lang at mode text (Some found) =
    IsLongest (Allows lang at mode text) text found.units
    × lang.tried at mode text found.spell (take found.units text)
    × (found.mode ≡ lang.mode_behind mode found.spell (take found.units text))

-- no spelling is of two kinds
abbrev pub HasOneKind : Language → Type 0
HasOneKind lang = (at mode : ℕ) (text s : List ℕ) (a b : Spell) → lang.tried at mode text a s → lang.tried at mode text b s → a ≡ b
