-- What a text is lexed to, by its language.
use Rattle.std.specs.Prelude.{ℕ, Ok, List, [], length, sum_by, false}
use Rattle.cq_base.specs.declared.lang.Lang.{Lang}
use Rattle.cq_base.specs.declared.lang.Lang.TheVariants as lang
use Rattle.cq_base.specs.declared.token.Mark.{Mark}
use Rattle.cq_base.specs.declared.token.Spelled.{Spelled}
use Rattle.cq_munch.specs.declared.munching.Lexed.{Lexed}
use Rattle.cq_munch.specs.declared.munching.Lexed.TheVariants as lexed
use Rattle.cq_munch.specs.Lexed.{IsLexed}
use Rattle.cq_lex_any.specs.Any.{any}
use Rattle.cq_lex_go.specs.Go.{go}
use Rattle.cq_lex_go.specs.Semicolons.{completed}
use Rattle.cq_lex_c.specs.C.{c}
use Rattle.cq_lex_c.specs.Splices.{spliced}
use Rattle.cq_lex_java.specs.Java.{java}
use Rattle.cq_lex_java.specs.Translation.{translated}
use Rattle.cq_lex_js.specs.JavaScript.{javascript}
use Rattle.cq_lex_js.specs.TypeScript.{typescript}
use Rattle.cq_normal.specs.Kept.{kept}
use Rattle.cq_work.specs.declared.work.State.{State}
use Rattle.cq_work.specs.declared.work.State.TheVariants as state

-- Go inserts semicolons, C takes splices out, and Java reads Unicode escapes
abbrev pub LexesTo : Lang → List ℕ → Lexed → Type 0
LexesTo lang.Any text answer = IsLexed any (λ units. Ok units) (λ bytes tokens. tokens) text answer
LexesTo lang.Go text answer = IsLexed go (λ units. Ok units) completed text answer
LexesTo lang.C text answer = IsLexed c (λ units. Ok (spliced 0 units)) (λ bytes tokens. tokens) text answer
LexesTo lang.Java text answer = IsLexed java (translated 0 false) (λ bytes tokens. tokens) text answer
LexesTo lang.Js text answer = IsLexed javascript (λ units. Ok units) (λ bytes tokens. tokens) text answer
LexesTo lang.Ts text answer = IsLexed typescript (λ units. Ok units) (λ bytes tokens. tokens) text answer

-- the tokens of an answer; none of a fault, or of a text with too many
abbrev pub tokens_in : Lexed → List Spelled
tokens_in (lexed.Tokens v marks) = v.items
tokens_in (lexed.Fault at) = []
tokens_in lexed.Large = []

-- and the marks of its comments
abbrev pub marks_in : Lexed → List Mark
marks_in (lexed.Tokens v marks) = marks.items
marks_in (lexed.Fault at) = []
marks_in lexed.Large = []

-- the tokens that are listed: all but those that the marks leave out
abbrev pub kept_in : Lexed → List Spelled
kept_in answer = kept (marks_in answer) (tokens_in answer)

abbrev pub state_of : Lexed → State
state_of (lexed.Tokens v marks) = state.Ok
state_of (lexed.Fault at) = state.Fault at
state_of lexed.Large = state.Large

-- how many bytes the spellings of tokens have together
abbrev pub spelled_bytes : List Spelled → ℕ
spelled_bytes tokens = sum_by (λ s. length s.text) tokens
