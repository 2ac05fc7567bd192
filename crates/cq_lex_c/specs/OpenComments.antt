-- The only fault of a text: a comment that nothing closes.
use Rattle.std.specs.Prelude.{◌≡◌, ℕ, ◌<◌, Ok, None, List, [], ◌∷◌, length, drop, IsTrue}
use Rattle.cq_munch.specs.Characters.{characters}
use Rattle.cq_munch.specs.Comments.{IsBlockComment}
use Rattle.cq_munch.specs.Lexed.{IsLexed, unit_at, units_of}
use Rattle.cq_munch.specs.Longest.{LongestAt}
use Rattle.cq_munch.specs.declared.munching.Lexed.TheVariants.{Fault}
use Rattle.cq_munch.specs.declared.unit.Unit.{Unit}
use Rattle.cq_munch.specs.Table.{begins}
use Rattle.cq_lex_c.specs.C.{c}
use Rattle.cq_lex_c.specs.Splices.{spliced}

-- there are a slash and a star at the unit of this byte, and no star followed by a slash closes them
pub record IsOpenComment (units : List Unit) (byte : ℕ) : Type 0 where
  pub at : ℕ
  pub inside : at < length units
  pub byte_is : byte ≡ (unit_at units at).start
  pub opens : IsTrue (begins (47 ∷ 42 ∷ []) (drop at (characters units)))
  pub unclosed : LongestAt IsBlockComment (drop at (characters units)) None

abbrev pub OnlyOpenCommentsAreFaults : Type 0
OnlyOpenCommentsAreFaults =
    (bytes : List ℕ) (byte : ℕ) → IsLexed c (λ units. Ok (spliced 0 units)) (λ text tokens. tokens) bytes (Fault byte) → IsOpenComment (spliced 0 (units_of bytes)) byte
