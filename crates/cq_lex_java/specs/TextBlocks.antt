-- Text blocks as they are written (JLS 3.10.6): three quotes, blanks, a line end, the content, and three quotes.
use Rattle.std.specs.Prelude.{◌≡◌, ◌↔◌, ℕ, ◌==◌, ◌&&◌, Bool, false, List, [], ◌∷◌, ◌++◌, IsTrue, IsFalse, ⊤}
use Rattle.std.specs.List.{AllByRecursion}
use Rattle.cq_munch.specs.Pattern.{Spells}
use Rattle.cq_lex_java.specs.Blocks.{is_line_end, is_space, text_block}

-- a part of the content: a character, or a backslash with the character after it
pub data Part : Type 0 where
  plain : ℕ → Part
  escaped : ℕ → Part

abbrev pub spelled : Part → List ℕ
spelled (plain c) = c ∷ []
spelled (escaped c) = 92 ∷ c ∷ []

abbrev pub spells : List Part → List ℕ
spells [] = []
spells (p ∷ ps) = spelled p ++ spells ps

-- a backslash takes the character after it
abbrev pub IsPart : Part → Type 0
IsPart (plain c) = IsFalse (c == 92)
IsPart (escaped c) = ⊤

abbrev pub is_quote : Part → Bool
is_quote (plain c) = c == 34
is_quote (escaped c) = false

-- whether there are three quotes at the front
abbrev pub begins_closing : List Part → Bool
begins_closing (p ∷ q ∷ r ∷ ps) = is_quote p && (is_quote q && is_quote r)
begins_closing _ = false

-- there are nowhere three quotes in a row
abbrev pub IsOpen : List Part → Type 0
IsOpen [] = ⊤
IsOpen (p ∷ ps) = IsFalse (begins_closing (p ∷ ps)) × IsOpen ps

-- the first three quotes are those that close: there are none before, nor with the first two of these
abbrev pub IsContent : List Part → Type 0
IsContent parts = AllByRecursion IsPart parts × IsOpen (parts ++ plain 34 ∷ plain 34 ∷ [])

pub record IsWritten (s : List ℕ) : Type 0 where
  pub blanks : List ℕ
  pub line_end : ℕ
  pub content : List Part
  pub text : s ≡ 34 ∷ 34 ∷ 34 ∷ blanks ++ line_end ∷ spells content ++ 34 ∷ 34 ∷ 34 ∷ []
  pub are_blanks : AllByRecursion (λ c. IsTrue (is_space c)) blanks
  pub ends_line : IsTrue (is_line_end line_end)
  pub is_content : IsContent content

abbrev pub TextBlocksAreWritten : Type 0
TextBlocksAreWritten = (s : List ℕ) → Spells text_block s ↔ IsWritten s
