-- How many bytes the spellings of a text's tokens have: a unit's character has at most four, and a semicolon that is
-- inserted has one.
use Rattle.std.proofs.Common.{◌≡◌, ℕ, ◌+◌, ◌*◌, ◌≤◌, Option, Some, None, Bool, true, false, if◌then◌else◌, Result, Ok, Err, IsOkAnd, IfOk, IsUtf8, List, [], ◌∷◌, ◌++◌, length, take, drop, ap, arith, length-append}
use Rattle.std.proofs.lemmas.List.{length-map, length-take}
use Rattle.std.proofs.lemmas.List.Sums.{sum_by-cons, sum_by-append}
use Rattle.std.proofs.lemmas.Str.{length-encode, len_utf8_bounds}
use Rattle.std.specs.Prelude.{encode_utf8}
use Rattle.std.specs.Str.{encode_utf8_all}
use Rattle.cq_base.specs.declared.lang.Lang.{Lang}
use Rattle.cq_base.specs.declared.lang.Lang.TheVariants as lang
use Rattle.cq_base.specs.declared.token.Mark.{Mark}
use Rattle.cq_base.specs.declared.token.Spelled.{Spelled}
use Rattle.cq_base.specs.declared.token.Token.{Token}
use Rattle.cq_munch.specs.declared.element.Found.{Found}
use Rattle.cq_munch.specs.declared.element.Spell.{Spell}
use Rattle.cq_munch.specs.declared.element.Spell.TheVariants.{Blank, Comment, Token as TokenOf}
use Rattle.cq_munch.specs.declared.munching.Lexed.{Lexed}
use Rattle.cq_munch.specs.declared.munching.Lexed.TheVariants as lexed
use Rattle.cq_munch.specs.declared.unit.Unit.{Unit}
use Rattle.cq_munch.specs.Characters.{characters}
use Rattle.cq_munch.specs.Language.{Language}
use Rattle.cq_munch.specs.Lexed.{IsLexed, IsWhole, Follow, tokens_of, token_of, marks_of, spelled_of, units_of}
use Rattle.cq_munch.proofs.Decoding.{length-units_of}
use Rattle.cq_lex_any.specs.Any.{any}
use Rattle.cq_lex_go.specs.Go.{go}
use Rattle.cq_lex_go.specs.Semicolons.{completed, completed_from, between, semicolon_behind, ending, has_feed, end_of}
use Rattle.cq_lex_c.specs.C.{c}
use Rattle.cq_lex_c.specs.Splices.{spliced}
use Rattle.cq_lex_c.proofs.Splicing.{length-spliced}
use Rattle.cq_lex_java.specs.Java.{java}
use Rattle.cq_lex_java.specs.Translation.{translated}
use Rattle.cq_lex_java.proofs.Translating.{translated-short, shorter}
use Rattle.cq_lex_js.specs.JavaScript.{javascript}
use Rattle.cq_lex_js.specs.TypeScript.{typescript}
use Rattle.cq_work.specs.Lexing.{LexesTo, tokens_in, spelled_bytes}

bytes_cons : (s : Spelled) (tokens : List Spelled) → spelled_bytes (s ∷ tokens) ≡ length s.text + spelled_bytes tokens
bytes_cons = sum_by-cons (λ (s : Spelled). length s.text)

bytes_append : (a b : List Spelled) → spelled_bytes (a ++ b) ≡ spelled_bytes a + spelled_bytes b
bytes_append = sum_by-append (λ (s : Spelled). length s.text)

-- ---- elements that stand one after the other

pub encodes-short : (cs : List ℕ) → length (encode_utf8_all cs) ≤ 4 * length cs
encodes-short [] = omega arith
encodes-short (c ∷ cs) =
    let size = length-encode c in
    let most = (len_utf8_bounds c).1 in
    let all = length-append (encode_utf8 c) (encode_utf8_all cs) in
    let rest = encodes-short cs in
    omega (arith, size, most, all, rest)

token-short : (bytes : List ℕ) (spell : Spell) (units : List Unit) → spelled_bytes (token_of bytes spell units) ≤ 4 * length units
token-short bytes Blank units = omega arith
token-short bytes Comment units = omega arith
token-short bytes (TokenOf class) units =
    let one = bytes_cons (spelled_of bytes class units) [] in
    let short = encodes-short (characters units) in
    let many = length-map units (λ (u : Unit). u.ch) in
    omega (arith, one, short, many)

tokens-short : (lang : Language) (text bytes : List ℕ) (units : List Unit) (at mode : ℕ) (fs : List Found) (end last : ℕ) → Follow lang text at mode fs end last
    → spelled_bytes (tokens_of bytes units at fs) + 4 * at ≤ 4 * end
tokens-short lang text bytes units at mode [] end last follow = let there = follow.0 in omega (arith, there)
tokens-short lang text bytes units at mode (f ∷ fs) end last follow =
    let one = token-short bytes f.spell (take f.units (drop at units)) in
    let many = length-take f.units (drop at units) in
    let both = bytes_append (token_of bytes f.spell (take f.units (drop at units))) (tokens_of bytes units (at + f.units) fs) in
    let rest = tokens-short lang text bytes units (at + f.units) f.mode fs end last follow.1 in
    omega (arith, one, many, both, rest)

-- ---- what a text is lexed to, where a translation gives no more units than the text has bytes, and what is inserted has a byte each

module _ (lang : Language) (text : List ℕ) (added : List ℕ → List Spelled → List Spelled) (inserted : (tokens : List Spelled) → spelled_bytes (added text tokens) ≤ spelled_bytes tokens + length (added text tokens)) where
  found-short : (units : Result (List Unit) ℕ) (found : List Spelled) (marks : List Mark) → IfOk units (λ us. length us ≤ length text)
      → IsOkAnd units (λ us. (fs : List Found) × IsWhole lang us fs × (found ≡ added text (tokens_of text us 0 fs)) × (length found ≤ 262144) × (marks ≡ marks_of us 0 fs))
      → spelled_bytes found ≤ 4 * length text + 262144
  found-short (Err at) found marks short is = absurd is
  found-short (Ok us) found marks short is =
      let tokens = tokens_of text us 0 is.0 in
      let all = tokens-short lang (characters us) text us 0 0 is.0 (length us) is.1.0 is.1.1 in
      let more = inserted tokens in
      let same = ap spelled_bytes is.2 in
      let many = ap length is.2 in
      let few = is.3 in
      omega (arith, short, all, more, same, many, few)

  lexed-short : (translation : List Unit → Result (List Unit) ℕ) (a : Lexed) → IfOk (translation (units_of text)) (λ us. length us ≤ length text) → IsLexed lang translation added text a
      → spelled_bytes (tokens_in a) ≤ 4 * length text + 262144
  lexed-short translation (lexed.Tokens v marks) short is = found-short (translation (units_of text)) v.items marks.items short is
  lexed-short translation (lexed.Fault at) short is = omega arith
  lexed-short translation lexed.Large short is = omega arith

-- ---- each language

none_inserted : (tokens : List Spelled) → spelled_bytes tokens ≤ spelled_bytes tokens + length tokens
none_inserted tokens = omega arith

semicolon-short : (t : Token) → spelled_bytes (semicolon_behind t ∷ []) ≤ 1
semicolon-short t = let one = bytes_cons (semicolon_behind t) [] in omega (arith, one)

either-short : (b : Bool) (t : Token) → spelled_bytes (if b then semicolon_behind t ∷ [] else []) ≤ length (if b then semicolon_behind t ∷ [] else [])
either-short true t = semicolon-short t
either-short false t = omega arith

between-short : (text : List ℕ) (last : Option Token) (to : ℕ) → spelled_bytes (between text last to) ≤ length (between text last to)
between-short text None to = omega arith
between-short text (Some last) to = either-short (has_feed text (end_of last) to) last

completed-short : (text : List ℕ) (last : Option Token) (tokens : List Spelled) → spelled_bytes (completed_from text last tokens) ≤ spelled_bytes tokens + length (completed_from text last tokens)
completed-short text None [] = omega arith
completed-short text (Some last) [] = let one = semicolon-short last in omega (arith, one)
completed-short text last (t ∷ ts) =
    let before = between text last t.token.start in
    let behind = completed_from text (ending t) ts in
    let first = between-short text last t.token.start in
    let rest = completed-short text (ending t) ts in
    let both = bytes_append before (t ∷ behind) in
    let here = bytes_cons t behind in
    let own = bytes_cons t ts in
    let many = length-append before (t ∷ behind) in
    omega (arith, first, rest, both, here, own, many)

pub lexes-short : (l : Lang) (text : List ℕ) (a : Lexed) → IsUtf8 text → LexesTo l text a → spelled_bytes (tokens_in a) ≤ 4 * length text + 262144
lexes-short lang.Any text a utf8 is = lexed-short any text (λ bytes tokens. tokens) none_inserted (λ units. Ok units) a (length-units_of text utf8) is
lexes-short lang.Go text a utf8 is = lexed-short go text completed (completed-short text None) (λ units. Ok units) a (length-units_of text utf8) is
lexes-short lang.C text a utf8 is =
    let units = length-units_of text utf8 in
    let kept = length-spliced 0 (units_of text) in
    lexed-short c text (λ bytes tokens. tokens) none_inserted (λ units. Ok (spliced 0 units)) a (omega (arith, units, kept)) is
lexes-short lang.Java text a utf8 is =
    lexed-short java text (λ bytes tokens. tokens) none_inserted (translated 0 false) a
    (shorter (length (units_of text)) (length text) (translated 0 false (units_of text)) (length-units_of text utf8) (translated-short 0 false (units_of text))) is
lexes-short lang.Js text a utf8 is = lexed-short javascript text (λ bytes tokens. tokens) none_inserted (λ units. Ok units) a (length-units_of text utf8) is
lexes-short lang.Ts text a utf8 is = lexed-short typescript text (λ bytes tokens. tokens) none_inserted (λ units. Ok units) a (length-units_of text utf8) is
