-- What each language translates the units of a text to: units in order within the text, of Unicode scalar values, or a
-- fault at one of its bytes.
use Rattle.std.proofs.Common.{ℕ, zero, suc, ◌-◌, ◌≤◌, false, Result, Ok, Err, IfOk, IfErr, IsUtf8, List, [], ◌∷◌, length, arith}
use Rattle.std.specs.Char.{IsScalar}
use Rattle.cq_munch.specs.declared.unit.Unit.{Unit}
use Rattle.cq_munch.specs.Lexed.{InOrder, units_of}
use Rattle.cq_munch.proofs.Decoding.{units_of-InOrder, length-units_of}
use Rattle.cq_lex_c.specs.Splices.{splice_len, kept, spliced}
use Rattle.cq_lex_c.proofs.Splicing.{spliced-InOrder, length-spliced}
use Rattle.cq_lex_java.specs.Translation.{translated}
use Rattle.cq_lex_java.proofs.Scalars.{AreScalars, translated-scalars, translated-fault}
use Rattle.cq_lex_java.proofs.Translating.{translated-order, translated-short, shorter}
use Rattle.cq_work.proofs.Scalars.{units-scalars}

pub record AreUnitsOf (text : List ℕ) (units : List Unit) : Type 0 where
  pub in_order : InOrder 0 units (length text)
  pub scalars : AreScalars units
  pub few : length units ≤ length text

abbrev pub IsTranslated : List ℕ → Result (List Unit) ℕ → Type 0
IsTranslated text (Ok units) = AreUnitsOf text units
IsTranslated text (Err at) = at ≤ length text

pub plain-translated : (text : List ℕ) → IsUtf8 text → IsTranslated text (Ok (units_of text))
plain-translated text utf8 = record { in_order = units_of-InOrder text utf8; scalars = units-scalars text utf8; few = length-units_of text utf8 }

-- ---- C takes splices out

kept-scalars : (n : ℕ) (u : Unit) (whole rest : List Unit) → IsScalar u.ch → AreScalars whole → AreScalars rest → AreScalars (kept n u whole rest)
kept-scalars zero u whole rest first all left = (first, all)
kept-scalars (suc n) u whole rest first all left = left

spliced-scalars : (n : ℕ) (units : List Unit) → AreScalars units → AreScalars (spliced n units)
unfolding spliced
spliced-scalars n [] are = are
spliced-scalars (suc n) (u ∷ us) are = spliced-scalars n us are.1
spliced-scalars zero (u ∷ us) are =
    let len = splice_len (u ∷ us) in
    kept-scalars len u (spliced 0 us) (spliced (len - 1) us) are.0 (spliced-scalars 0 us are.1) (spliced-scalars (len - 1) us are.1)

pub spliced-translated : (text : List ℕ) → IsUtf8 text → IsTranslated text (Ok (spliced 0 (units_of text)))
spliced-translated text utf8 = record {
  in_order = spliced-InOrder 0 0 (length text) (units_of text) (units_of-InOrder text utf8);
  scalars = spliced-scalars 0 (units_of text) (units-scalars text utf8);
  few = let all = length-units_of text utf8 in let left = length-spliced 0 (units_of text) in omega (arith, all, left);
}

-- ---- Java reads Unicode escapes

by_parts : (text : List ℕ) (r : Result (List Unit) ℕ) → IfOk r (λ us. InOrder 0 us (length text)) → IfOk r AreScalars → IfOk r (λ us. length us ≤ length text) → IfErr r (λ at. at ≤ length text) → IsTranslated text r
by_parts text (Ok us) order scalars few fault = record { in_order = order; scalars = scalars; few = few }
by_parts text (Err at) order scalars few fault = fault

pub escapes-translated : (text : List ℕ) → IsUtf8 text → IsTranslated text (translated 0 false (units_of text))
escapes-translated text utf8 =
    let order = units_of-InOrder text utf8 in
    by_parts text (translated 0 false (units_of text))
    (translated-order 0 (length text) (units_of text) order)
    (translated-scalars 0 false (units_of text) (units-scalars text utf8))
    (shorter (length (units_of text)) (length text) (translated 0 false (units_of text)) (length-units_of text utf8) (translated-short 0 false (units_of text)))
    (translated-fault (length text) 0 false 0 (units_of text) order)
