-- At each place an element stands.
use Rattle.std.proofs.Common.{◌≡◌, ℕ, zero, suc, ◌<◌, None, Bool, true, false, List, [], ◌∷◌, length, drop, refl, ap, arith, length-drop}
use Rattle.std.proofs.lemmas.Bool.{eqb-true}
use Rattle.std.proofs.lemmas.List.{length-map}
use Rattle.std.specs.Char.{is_whitespace, is_ascii_digit}
use Rattle.unicode_ident.specs.Ident.{is_xid_continue}
use Rattle.cq_base.proofs.Bools.{MatchBool-from_true, MatchBool-from_false}
use Rattle.cq_base.specs.declared.token.Class.TheVariants.{Ident, Literal, Punct}
use Rattle.cq_munch.specs.Characters.{characters}
use Rattle.cq_munch.specs.Language.{Allows, Takes, has_mark}
use Rattle.cq_munch.specs.Lexed.{EndsAt}
use Rattle.cq_munch.specs.declared.element.Spell.{Spell}
use Rattle.cq_munch.specs.declared.element.Spell.TheVariants.{Blank, Token}
use Rattle.cq_munch.specs.declared.unit.Unit.{Unit}
use Rattle.cq_lex_any.specs.Any.{any, Rows}

-- a row has each character
row_of : (c : ℕ) → (spell : Spell) × Rows spell (c ∷ [])
row_of c = by (is_whitespace c) (is_xid_continue c) (is_ascii_digit c) refl refl refl
  where
    by : (blank run digit : Bool) → is_whitespace c ≡ blank → is_xid_continue c ≡ run → is_ascii_digit c ≡ digit → (spell : Spell) × Rows spell (c ∷ [])
    by true run digit h k l = (Blank, h)
    by false false digit h k l = (Token Punct, (h, k))
    by false true true h k l = (Token Literal, ((k, tt), l))
    by false true false h k l = (Token Ident, ((k, tt), l))

mark_is : (at c : ℕ) (s : List ℕ) → has_mark at (c ∷ s) ≡ true → c ≡ 65279
mark_is zero c s h = eqb-true c 65279 h
mark_is (suc at) c s h = absurd (cc)

allowed : (at mode c : ℕ) (s : List ℕ) → Allows any at mode (c ∷ s) (c ∷ [])
allowed at mode c s = by (has_mark at (c ∷ s)) refl
  where
    by : (mark : Bool) → has_mark at (c ∷ s) ≡ mark → Allows any at mode (c ∷ s) (c ∷ [])
    by true e = (Blank, MatchBool-from_true (has_mark at (c ∷ s)) _ (Rows Blank (c ∷ [])) e (refl, ap (λ d. d ∷ []) (mark_is at c s e)))
    by false e = let row = row_of c in (row.0, MatchBool-from_false (has_mark at (c ∷ s)) _ (Rows row.0 (c ∷ [])) e row.1)

some_taken : (at mode : ℕ) (text : List ℕ) → 0 < length text → Takes any at mode text None → ⊥
some_taken at mode [] some none = omega arith
some_taken at mode (c ∷ s) some none = none 1 (omega arith) (omega arith) (allowed at mode c s)

pub no_end : (units : List Unit) (byte : ℕ) → EndsAt any units byte → ⊥
no_end units byte ends =
    let left = length-drop ends.at (characters units) in
    let many = length-map units (λ (u : Unit). u.ch) in
    some_taken ends.at ends.mode (drop ends.at (characters units)) (omega (arith, ends.inside)) ends.nothing
