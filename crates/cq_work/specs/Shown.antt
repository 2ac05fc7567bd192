-- The settings, the language and the text determine the keys of a work, and they are few.
use Rattle.std.proofs.Common.{◌≡◌, ℕ, suc, ◌^◌, ◌<◌, ◌≤◌, nat_le, Bool, true, false, cond, Ok, List, [], ◌∷◌, length, map, take, not, refl, sym, ap, ap₂, ◌∙◌, arith}
use Rattle.std.proofs.lemmas.List.{length-map}
use Rattle.std.proofs.lemmas.List.Filters.{length-filter_both}
use Rattle.std.specs.Arc.{arc_value}
use Rattle.cq_base.specs.declared.settings.Settings.{Settings}
use Rattle.cq_base.specs.declared.lang.Lang.{Lang}
use Rattle.cq_base.specs.declared.lang.Lang.TheVariants as lang
use Rattle.cq_base.specs.declared.token.Mark.{Mark}
use Rattle.cq_base.specs.declared.token.Spelled.{Spelled}
use Rattle.cq_munch.specs.declared.munching.Lexed.{Lexed}
use Rattle.cq_munch.specs.declared.munching.Lexed.TheVariants as lexed
use Rattle.cq_munch.specs.Lexed.{Alike}
use Rattle.cq_munch.specs.OneAnswer.{one_answer}
use Rattle.cq_lex_any.specs.Any.{any}
use Rattle.cq_lex_any.specs.OneKind.{one_kind_of_any}
use Rattle.cq_lex_go.specs.Go.{go}
use Rattle.cq_lex_go.specs.OneKind.{one_kind_of_go}
use Rattle.cq_lex_go.specs.Semicolons.{completed}
use Rattle.cq_lex_c.specs.C.{c}
use Rattle.cq_lex_c.specs.OneKind.{one_kind_of_c}
use Rattle.cq_lex_c.specs.Splices.{spliced}
use Rattle.cq_lex_java.specs.Java.{java}
use Rattle.cq_lex_java.specs.OneKind.{one_kind_of_java}
use Rattle.cq_lex_java.specs.Translation.{translated}
use Rattle.cq_lex_js.specs.JavaScript.{javascript}
use Rattle.cq_lex_js.specs.OneKind.{one_kind_of_javascript, one_kind_of_typescript}
use Rattle.cq_lex_js.specs.TypeScript.{typescript}
use Rattle.cq_work.specs.Keys.{code_of, key_of, keys_of, window_keys}
use Rattle.cq_normal.specs.Kept.{is_on, kept}
use Rattle.cq_normal.specs.Normal.{norm_of, normal}
use Rattle.cq_work.specs.declared.work.Work.{Work}
use Rattle.cq_work.specs.Lexing.{LexesTo, tokens_in, marks_in, kept_in}
use Rattle.cq_work.specs.Work.{IsWorkOf}

pub one_lexing : (l : Lang) (text : List ℕ) (a b : Lexed) → LexesTo l text a → LexesTo l text b → Alike a b
one_lexing lang.Any text a b h k = one_answer any one_kind_of_any (λ units. Ok units) (λ bytes tokens. tokens) text a b h k
one_lexing lang.Go text a b h k = one_answer go one_kind_of_go (λ units. Ok units) completed text a b h k
one_lexing lang.C text a b h k = one_answer c one_kind_of_c (λ units. Ok (spliced 0 units)) (λ bytes tokens. tokens) text a b h k
one_lexing lang.Java text a b h k = one_answer java one_kind_of_java (translated 0 false) (λ bytes tokens. tokens) text a b h k
one_lexing lang.Js text a b h k = one_answer javascript one_kind_of_javascript (λ units. Ok units) (λ bytes tokens. tokens) text a b h k
one_lexing lang.Ts text a b h k = one_answer typescript one_kind_of_typescript (λ units. Ok units) (λ bytes tokens. tokens) text a b h k

same_parts : (a b : Lexed) → Alike a b → kept_in a ≡ kept_in b
same_parts (lexed.Tokens v marks) (lexed.Tokens w others) h = ap₂ kept h.1 h.0
same_parts (lexed.Tokens v marks) (lexed.Fault at) h = absurd h
same_parts (lexed.Tokens v marks) lexed.Large h = absurd h
same_parts (lexed.Fault at) (lexed.Tokens w others) h = absurd h
same_parts (lexed.Fault at) (lexed.Fault to) h = refl
same_parts (lexed.Fault at) lexed.Large h = absurd h
same_parts lexed.Large (lexed.Tokens w others) h = absurd h
same_parts lexed.Large (lexed.Fault at) h = absurd h
same_parts lexed.Large lexed.Large h = refl

-- whatever a text is lexed to, the tokens that are listed are the same
pub same_kept : (l : Lang) (text : List ℕ) (a b : Lexed) → LexesTo l text a → LexesTo l text b → kept_in a ≡ kept_in b
same_kept l text a b is also = same_parts a b (one_lexing l text a b is also)

pub keys_determined : {L : Type 0} (settings : Settings) (l : Lang) (text : List ℕ) (work other : Work L) → IsWorkOf settings l text work → IsWorkOf settings l text other → arc_value work.keys ≡ arc_value other.keys
keys_determined settings l text work other is also =
    is.shows.keys_are
    ∙ ap (λ tokens. window_keys settings (normal settings l tokens)) (same_kept l text is.answer also.answer is.lexes also.lexes)
    ∙ sym also.shows.keys_are

-- no more tokens are listed than there are
kept_most : (marks : List Mark) (tokens : List Spelled) → length (kept marks tokens) ≤ length tokens
kept_most marks tokens =
    let both = length-filter_both (λ (s : Spelled). is_on true marks s.token.start) (λ (s : Spelled). not (is_on true marks s.token.start)) (λ _. refl) tokens in
    omega (arith, both)

-- no more windows than tokens
either : (b : Bool) (key : ℕ) (keys codes : List ℕ) → length keys ≤ length codes → length (cond b (key ∷ keys) []) ≤ suc (length codes)
either true key keys codes h = omega (arith, h)
either false key keys codes h = omega arith

keys_most : (settings : Settings) (codes : List ℕ) → length (keys_of settings codes) ≤ length codes
keys_most settings [] = omega arith
keys_most settings (first ∷ codes) = either (nat_le settings.chunk (length (first ∷ codes))) (key_of settings (take settings.chunk (first ∷ codes))) (keys_of settings codes) codes (keys_most settings codes)

pub few_keys : {L : Type 0} (settings : Settings) (l : Lang) (text : List ℕ) (work : Work L) → IsWorkOf settings l text work → length (arc_value work.keys) < 2 ^ 32
few_keys settings l text work is =
    let norms = normal settings l (kept_in is.answer) in
    let most = keys_most settings (map code_of norms) in
    let codes = length-map norms code_of in
    let tokens = length-map (kept_in is.answer) (norm_of settings l) in
    let listed = kept_most (marks_in is.answer) (tokens_in is.answer) in
    let keys = ap length is.shows.keys_are in
    let few = is.shows.few in
    omega (arith, most, codes, tokens, listed, keys, few)
