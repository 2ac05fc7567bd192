-- The characters of units are Unicode scalar values, so what they spell is UTF-8.
use Rattle.std.proofs.Common.{◌≡◌, ℕ, ◌+◌, ◌<◌, ◌≤◌, true, IsUtf8, List, [], ◌∷◌, length, take, drop, subst, arith}
use Rattle.std.proofs.Math.Utf8.{scalar, scalars}
use Rattle.std.proofs.lemmas.Bool.{and_parts}
use Rattle.std.proofs.lemmas.List.{length-map}
use Rattle.std.proofs.lemmas.List.Elements.{All-from_recursion, recursion_from_All, All-take, All-drop}
use Rattle.std.proofs.lemmas.Str.{IsUtf8-append, IsUtf8-encode, IsUtf8-nil, encode_ascii, scalars-chars}
use Rattle.std.specs.Char.{IsScalar, len_utf8}
use Rattle.std.specs.Prelude.{encode_utf8}
use Rattle.std.specs.Str.{chars}
use Rattle.cq_munch.specs.declared.unit.Unit.{Unit}
use Rattle.cq_munch.specs.Characters.{characters, utf8_of}
use Rattle.cq_munch.specs.Lexed.{placed, units_of}
use Rattle.cq_lex_java.proofs.Scalars.{AreScalars}
use Rattle.cq_work.specs.Bounds.{IsSpelling}
use Rattle.cq_work.proofs.Spellings.{encodes-short}

pub scalars-take : (n : ℕ) (units : List Unit) → AreScalars units → AreScalars (take n units)
scalars-take n units are = recursion_from_All (λ (u : Unit). IsScalar u.ch) (take n units) (All-take (λ (u : Unit). IsScalar u.ch) n units (All-from_recursion (λ (u : Unit). IsScalar u.ch) units are))

pub scalars-drop : (n : ℕ) (units : List Unit) → AreScalars units → AreScalars (drop n units)
scalars-drop n units are = recursion_from_All (λ (u : Unit). IsScalar u.ch) (drop n units) (All-drop (λ (u : Unit). IsScalar u.ch) n units (All-from_recursion (λ (u : Unit). IsScalar u.ch) units are))

placed-scalars : (at : ℕ) (cs : List ℕ) → scalars cs ≡ true → AreScalars (placed at cs)
placed-scalars at [] are = tt
placed-scalars at (c ∷ cs) are = let parts = and_parts (scalar c) (scalars cs) are in (parts.0, placed-scalars (at + len_utf8 c) cs parts.1)

pub units-scalars : (text : List ℕ) → IsUtf8 text → AreScalars (units_of text)
units-scalars text utf8 = placed-scalars 0 (chars text) (scalars-chars text utf8)

utf8_of-IsUtf8 : (units : List Unit) → AreScalars units → IsUtf8 (utf8_of units)
utf8_of-IsUtf8 [] are = IsUtf8-nil
utf8_of-IsUtf8 (u ∷ units) are = IsUtf8-append (encode_utf8 u.ch) (utf8_of units) (IsUtf8-encode u.ch are.0) (utf8_of-IsUtf8 units are.1)

-- what at most 1,048,576 units spell
pub units-spell : (units : List Unit) → AreScalars units → length units ≤ 1048576 → IsSpelling (utf8_of units)
units-spell units are few = record {
  utf8 = utf8_of-IsUtf8 units are;
  short =
      let most = encodes-short (characters units) in
      let many = length-map units (λ (u : Unit). u.ch) in
      omega (arith, most, many, few);
}

-- ---- spellings of ASCII

one-IsUtf8 : (c : ℕ) → c < 128 → IsScalar c → IsUtf8 (c ∷ [])
one-IsUtf8 c low is = subst IsUtf8 (encode_ascii c low) (IsUtf8-encode c is)

pub empty-spelling : IsSpelling []
empty-spelling = record { utf8 = IsUtf8-nil; short = omega arith }

pub one-spelling : (c : ℕ) → c < 128 → IsScalar c → IsSpelling (c ∷ [])
one-spelling c low is = record { utf8 = one-IsUtf8 c low is; short = omega arith }

pub two-spelling : (c d : ℕ) → c < 128 → d < 128 → IsScalar c → IsScalar d → IsSpelling (c ∷ d ∷ [])
two-spelling c d low small is also = record { utf8 = IsUtf8-append (c ∷ []) (d ∷ []) (one-IsUtf8 c low is) (one-IsUtf8 d small also); short = omega arith }
