-- The tokens of what a text is lexed to lie within it and its lines, in order; a fault is one of its bytes.
use Rattle.std.proofs.Common.{◌≡◌, ℕ, ◌≤◌, false, Result, Ok, Err, IsUtf8, List, length, sym, subst, arith}
use Rattle.std.specs.Prelude.{⊤, IsOkAnd, MatchResult}
use Rattle.cq_base.specs.Lines.{lines_of}
use Rattle.cq_base.specs.declared.lang.Lang.{Lang}
use Rattle.cq_base.specs.declared.lang.Lang.TheVariants as lang
use Rattle.cq_base.specs.declared.token.Mark.{Mark}
use Rattle.cq_base.specs.declared.token.Spelled.{Spelled}
use Rattle.cq_munch.specs.declared.element.Found.{Found}
use Rattle.cq_munch.specs.declared.munching.Lexed.{Lexed}
use Rattle.cq_munch.specs.declared.munching.Lexed.TheVariants as lexed
use Rattle.cq_munch.specs.declared.unit.Unit.{Unit}
use Rattle.cq_munch.specs.Language.{Language}
use Rattle.cq_munch.specs.Lexed.{EndsAt, IsLexed, IsWhole, marks_of, tokens_of, units_of}
use Rattle.cq_lex_any.specs.Any.{any}
use Rattle.cq_lex_c.specs.C.{c}
use Rattle.cq_lex_c.specs.Splices.{spliced}
use Rattle.cq_lex_go.specs.Go.{go}
use Rattle.cq_lex_go.specs.Semicolons.{completed}
use Rattle.cq_lex_java.specs.Java.{java}
use Rattle.cq_lex_java.specs.Translation.{translated}
use Rattle.cq_lex_java.proofs.Spans.{at_within}
use Rattle.cq_lex_js.specs.JavaScript.{javascript}
use Rattle.cq_lex_js.specs.TypeScript.{typescript}
use Rattle.cq_work.specs.Lexing.{LexesTo}
use Rattle.cq_work.proofs.Inserted.{semicolons_stand}
use Rattle.cq_work.proofs.Standing.{Stand, tokens_stand}
use Rattle.cq_work.proofs.Translated.{IsTranslated, plain-translated, spliced-translated, escapes-translated}

abbrev pub IsPlacedIn : List ℕ → Lexed → Type 0
IsPlacedIn text (lexed.Tokens v marks) = Stand (length text) (lines_of text) 0 v.items
IsPlacedIn text (lexed.Fault at) = at ≤ length text
IsPlacedIn text lexed.Large = ⊤

module _ (lang : Language) (text : List ℕ) (short : length text ≤ 1048576) (added : List ℕ → List Spelled → List Spelled)
    (stay : (tokens : List Spelled) → Stand (length text) (lines_of text) 0 tokens → Stand (length text) (lines_of text) 0 (added text tokens)) where
  tokens_placed : (r : Result (List Unit) ℕ) (found : List Spelled) (marks : List Mark) → IsTranslated text r
      → IsOkAnd r (λ us. (fs : List Found) × IsWhole lang us fs × (found ≡ added text (tokens_of text us 0 fs)) × (length found ≤ 262144) × (marks ≡ marks_of us 0 fs))
      → Stand (length text) (lines_of text) 0 found
  tokens_placed (Err at) found marks are is = absurd is
  tokens_placed (Ok us) found marks are is =
      subst (Stand (length text) (lines_of text) 0) (sym is.2) (stay (tokens_of text us 0 is.0) (tokens_stand lang text us is.0 short are is.1))

  fault_placed : (r : Result (List Unit) ℕ) (byte : ℕ) → IsTranslated text r → MatchResult r (λ us. EndsAt lang us byte) (λ at. byte ≡ at) → byte ≤ length text
  fault_placed (Err at) byte are is = omega (arith, are, is)
  fault_placed (Ok us) byte are is =
      let inside = at_within us is.at 0 (length text) is.inside are.in_order in
      let byte_is = is.byte_is in
      omega (arith, inside, byte_is)

  answer_placed : (translation : List Unit → Result (List Unit) ℕ) (a : Lexed) → IsTranslated text (translation (units_of text)) → IsLexed lang translation added text a → IsPlacedIn text a
  answer_placed translation (lexed.Tokens v marks) are is = tokens_placed (translation (units_of text)) v.items marks.items are is
  answer_placed translation (lexed.Fault at) are is = fault_placed (translation (units_of text)) at are is
  answer_placed translation lexed.Large are is = tt

pub lexes-placed : (l : Lang) (text : List ℕ) (a : Lexed) → IsUtf8 text → length text ≤ 1048576 → LexesTo l text a → IsPlacedIn text a
lexes-placed lang.Any text a utf8 short is =
    answer_placed any text short (λ bytes tokens. tokens) (λ tokens stand. stand) (λ units. Ok units) a (plain-translated text utf8) is
lexes-placed lang.Go text a utf8 short is =
    answer_placed go text short completed (semicolons_stand (length text) (lines_of text) text) (λ units. Ok units) a (plain-translated text utf8) is
lexes-placed lang.C text a utf8 short is =
    answer_placed c text short (λ bytes tokens. tokens) (λ tokens stand. stand) (λ units. Ok (spliced 0 units)) a (spliced-translated text utf8) is
lexes-placed lang.Java text a utf8 short is =
    answer_placed java text short (λ bytes tokens. tokens) (λ tokens stand. stand) (translated 0 false) a (escapes-translated text utf8) is
lexes-placed lang.Js text a utf8 short is =
    answer_placed javascript text short (λ bytes tokens. tokens) (λ tokens stand. stand) (λ units. Ok units) a (plain-translated text utf8) is
lexes-placed lang.Ts text a utf8 short is =
    answer_placed typescript text short (λ bytes tokens. tokens) (λ tokens stand. stand) (λ units. Ok units) a (plain-translated text utf8) is
