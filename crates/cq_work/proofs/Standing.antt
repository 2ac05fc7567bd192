-- The tokens of elements that stand one after the other lie within the text and its lines, in order.
use Rattle.std.proofs.Common.{◌≡◌, ℕ, zero, suc, ◌+◌, ◌-◌, ◌<◌, ◌≤◌, List, [], ◌∷◌, ◌++◌, length, take, drop, get_or, subst, arith, length-drop, length-take-le}
use Rattle.std.specs.List.{AllByRecursion}
use Rattle.std.specs.Prelude.{⊤}
use Rattle.std.proofs.lemmas.List.{length-map}
use Rattle.cq_base.specs.Lines.{line_at, lines_of}
use Rattle.cq_base.specs.declared.token.Spelled.{Spelled}
use Rattle.cq_munch.specs.declared.element.Found.{Found}
use Rattle.cq_munch.specs.declared.element.Spell.{Spell}
use Rattle.cq_munch.specs.declared.element.Spell.TheVariants.{Blank, Comment, Token as TokenOf}
use Rattle.cq_munch.specs.declared.unit.Unit.{Unit}
use Rattle.cq_munch.specs.Characters.{characters}
use Rattle.cq_munch.specs.Language.{Language}
use Rattle.cq_munch.specs.Lexed.{Follow, InOrder, IsWhole, token_of, tokens_of, unit_at, end_of}
use Rattle.cq_lex_java.proofs.Scalars.{AreScalars}
use Rattle.cq_munch.proofs.Elements.{further}
use Rattle.cq_munch.proofs.Orders.{InOrder-take, InOrder-ends, InOrder-behind}
use Rattle.cq_work.specs.Bounds.{IsWithin, IsSpelling}
use Rattle.cq_work.proofs.Scalars.{scalars-take, scalars-drop, units-spell}
use Rattle.cq_work.proofs.TextLines.{later_line, line_within}
use Rattle.cq_work.proofs.Translated.{AreUnitsOf}

-- Each token lies within so many bytes and lines and is spelled in UTF-8; the first begins on a line or after it, and each
-- other one on the last line of the one before it or after that.
abbrev pub Stand : ℕ → ℕ → ℕ → List Spelled → Type 0
Stand most lines from [] = ⊤
Stand most lines from (s ∷ tokens) = (from ≤ s.token.first_line) × IsWithin most lines s.token × IsSpelling s.text × Stand most lines s.token.last_line tokens

-- what is so of each of them
pub record IsPlaced (most lines : ℕ) (s : Spelled) : Type 0 where
  pub place : IsWithin most lines s.token
  pub text : IsSpelling s.text

pub each_placed : (most lines from : ℕ) (tokens : List Spelled) → Stand most lines from tokens → AllByRecursion (IsPlaced most lines) tokens
each_placed most lines from [] stand = tt
each_placed most lines from (s ∷ tokens) stand = (record { place = stand.1; text = stand.2 }, each_placed most lines s.token.last_line tokens stand.3)

-- within more bytes
pub stand_wider : (most more lines from : ℕ) (tokens : List Spelled) → most ≤ more → Stand most lines from tokens → Stand more lines from tokens
stand_wider most more lines from [] le stand = tt
stand_wider most more lines from (s ∷ tokens) le stand = (
  stand.0,
  record { bytes = let here = stand.1.bytes in omega (arith, le, here); first = stand.1.first; in_order = stand.1.in_order; last = stand.1.last },
  stand.2,
  stand_wider most more lines s.token.last_line tokens le stand.3,
)

-- of two tokens the one that stands first begins on no later line than the other one ends
ends_behind : (most lines from : ℕ) (tokens : List Spelled) (j : ℕ) (d : Spelled) → Stand most lines from tokens → j < length tokens → from ≤ (get_or tokens j d).token.last_line
ends_behind most lines from [] j d stand inside = absurd (omega arith)
ends_behind most lines from (s ∷ tokens) zero d stand inside = let first = stand.0 in let order = stand.1.in_order in omega (arith, first, order)
ends_behind most lines from (s ∷ tokens) (suc j) d stand inside =
    let later = ends_behind most lines s.token.last_line tokens j d stand.3 (omega (arith, inside)) in
    let first = stand.0 in
    let order = stand.1.in_order in
    omega (arith, later, first, order)

pub lines_rise : (most lines from : ℕ) (tokens : List Spelled) (i j : ℕ) (d : Spelled) → Stand most lines from tokens → i ≤ j → j < length tokens → (get_or tokens i d).token.first_line ≤ (get_or tokens j d).token.last_line
lines_rise most lines from [] i j d stand le inside = absurd (omega arith)
lines_rise most lines from (s ∷ tokens) zero zero d stand le inside = stand.1.in_order
lines_rise most lines from (s ∷ tokens) zero (suc j) d stand le inside =
    let later = ends_behind most lines s.token.last_line tokens j d stand.3 (omega (arith, inside)) in
    let order = stand.1.in_order in
    omega (arith, later, order)
lines_rise most lines from (s ∷ tokens) (suc i) zero d stand le inside = absurd (omega (arith, le))
lines_rise most lines from (s ∷ tokens) (suc i) (suc j) d stand le inside = lines_rise most lines s.token.last_line tokens i j d stand.3 (omega (arith, le)) (omega (arith, inside))

-- ---- the token of an element, before those that follow

-- the units of an element: from which byte to which they lie, the line of the token before them, and what they are
pub record IsElement (bytes : List ℕ) (line from : ℕ) (units : List Unit) : Type 0 where
  pub line_is : line ≤ line_at bytes from
  pub begins : from ≤ (unit_at units 0).start
  pub some : (unit_at units 0).start < end_of units
  pub ends : end_of units ≤ length bytes
  pub scalars : AreScalars units
  pub few : length units ≤ 1048576

blank_more : (bytes : List ℕ) (line from : ℕ) (units : List Unit) → IsElement bytes line from units → line ≤ line_at bytes (end_of units)
blank_more bytes line from units is =
    let later = later_line bytes from (end_of units) (let low = is.begins in let some = is.some in omega (arith, low, some)) in
    let here = is.line_is in
    omega (arith, later, here)

stand_more : (bytes : List ℕ) (spell : Spell) (line from : ℕ) (units : List Unit) (rest : List Spelled) → IsElement bytes line from units
    → ((l : ℕ) → l ≤ line_at bytes (end_of units) → Stand (length bytes) (lines_of bytes) l rest) → Stand (length bytes) (lines_of bytes) line (token_of bytes spell units ++ rest)
stand_more bytes Blank line from units rest is later = later line (blank_more bytes line from units is)
stand_more bytes Comment line from units rest is later = later line (blank_more bytes line from units is)
stand_more bytes (TokenOf class) line from units rest is later =
    let start = (unit_at units 0).start in
    let end = end_of units in
    let low = is.begins in
    let some = is.some in
    let high = is.ends in
    let reaches : start + (end - start) ≡ end = omega (arith, some) in
    let behind : start + (end - start) - 1 < length bytes = omega (arith, some, high) in
    let first = later_line bytes from start low in
    let here = is.line_is in (
      omega (arith, first, here),
      record {
        bytes = omega (arith, reaches, high);
        first = omega arith;
        in_order = later_line bytes start (start + (end - start) - 1) (omega (arith, some));
        last = line_within bytes (start + (end - start) - 1) behind;
      },
      units-spell units is.scalars is.few,
      later (line_at bytes (start + (end - start) - 1)) (later_line bytes (start + (end - start) - 1) end (omega (arith, some))),
    )

-- ---- one after the other

module _ (lang : Language) (bytes : List ℕ) (units : List Unit) (scalars : (at : ℕ) → AreScalars (drop at units)) (few : length units ≤ 1048576) where
  elements_stand : (line from at mode : ℕ) (fs : List Found) (end last : ℕ) → line ≤ line_at bytes from → Follow lang (characters units) at mode fs end last → InOrder from (drop at units) (length bytes)
      → Stand (length bytes) (lines_of bytes) line (tokens_of bytes units at fs)
  elements_stand line from at mode [] end last line_is follow order = tt
  elements_stand line from at mode (f ∷ fs) end last line_is follow order =
      let here : List Unit = take f.units (drop at units) in
      let some : 0 < f.units = follow.0.0.some in
      let as_many = length-map units (λ (u : Unit). u.ch) in
      let characters_left = length-drop at (characters units) in
      let units_left = length-drop at units in
      let left : f.units ≤ length (drop at units) = omega (arith, follow.0.0.within, as_many, characters_left, units_left) in
      let many : length here ≡ f.units = length-take-le f.units (drop at units) left in
      let ends = InOrder-ends from here (length bytes) (InOrder-take f.units from (drop at units) (length bytes) order) (omega (arith, some, many)) in
      let behind : InOrder (end_of here) (drop (at + f.units) units) (length bytes) =
      subst (λ us. InOrder (end_of here) us (length bytes)) (further at f.units units) (InOrder-behind f.units from (drop at units) (length bytes) some left order) in
      stand_more bytes f.spell line from here (tokens_of bytes units (at + f.units) fs)
      (record { line_is = line_is; begins = ends.0; some = ends.1; ends = ends.2; scalars = scalars-take f.units (drop at units) (scalars at); few = omega (arith, many, left, units_left, few) })
      (λ l le. elements_stand l (end_of here) (at + f.units) f.mode fs end last le follow.1 behind)

pub tokens_stand : (lang : Language) (bytes : List ℕ) (units : List Unit) (fs : List Found) → length bytes ≤ 1048576 → AreUnitsOf bytes units → IsWhole lang units fs
    → Stand (length bytes) (lines_of bytes) 0 (tokens_of bytes units 0 fs)
tokens_stand lang bytes units fs short are whole =
    elements_stand lang bytes units (λ at. scalars-drop at units are.scalars) (let few = are.few in omega (arith, few, short)) 0 0 0 0 fs (length units) whole.0 (omega arith) whole.1 are.in_order
