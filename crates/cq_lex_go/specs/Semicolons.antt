-- The semicolons that are inserted (Go specification, "Semicolons").
use Rattle.std.specs.Prelude.{ℕ, ◌+◌, ◌-◌, ◌==◌, ◌||◌, Bool, true, if◌then◌else◌, Option, Some, None, List, [], ◌∷◌, ◌++◌, take, drop, codes}
use Rattle.std.specs.List.{list_any}
use Rattle.std.specs.Str.{bytes_eq}
use Rattle.cq_base.specs.declared.token.Class.{Class}
use Rattle.cq_base.specs.declared.token.Class.TheVariants.{Ident, Word, Literal, Punct}
use Rattle.cq_base.specs.declared.token.Spelled.{Spelled}
use Rattle.cq_base.specs.declared.token.Token.{Token}

-- a name, a literal, one of four keywords, or one of five operators and brackets
abbrev pub may_end : Class → List ℕ → Bool
may_end Ident s = true
may_end Literal s = true
may_end Word s = bytes_eq s (codes "break") || bytes_eq s (codes "continue") || bytes_eq s (codes "fallthrough") || bytes_eq s (codes "return")
may_end Punct s = bytes_eq s (codes "++") || bytes_eq s (codes "--") || bytes_eq s (codes ")") || bytes_eq s (codes "]") || bytes_eq s (codes "}")

-- the byte after a token
abbrev pub end_of : Token → ℕ
end_of t = t.start + t.len

-- there is a line feed between a byte and another
abbrev pub has_feed : List ℕ → ℕ → ℕ → Bool
has_feed text from to = list_any (λ b. b == 10) (take (to - from) (drop from text))

-- no bytes directly after the token, on the line where it ends
abbrev pub semicolon_behind : Token → Spelled
semicolon_behind t = record {
  token = record { class = Punct; start = end_of t; len = 0; first_line = t.last_line; last_line = t.last_line };
  text = codes ";";
}

-- the token, if a statement may end with it
abbrev pub ending : Spelled → Option Token
ending t = if may_end t.token.class t.text then Some t.token else None

-- what comes between a token with which a statement may end and the next one
abbrev pub between : List ℕ → Option Token → ℕ → List Spelled
between text None to = []
between text (Some last) to = if has_feed text (end_of last) to then semicolon_behind last ∷ [] else []

-- what comes after the last token
abbrev pub behind_last : Option Token → List Spelled
behind_last None = []
behind_last (Some last) = semicolon_behind last ∷ []

-- the tokens after one with which a statement may end, or may not
abbrev pub completed_from : List ℕ → Option Token → List Spelled → List Spelled
completed_from text last [] = behind_last last
completed_from text last (t ∷ ts) = between text last t.token.start ++ t ∷ completed_from text (ending t) ts

-- A semicolon is inserted after a token with which a statement may end, if there is a line feed before the next
-- token, or no token follows.
abbrev pub completed : List ℕ → List Spelled → List Spelled
completed text tokens = completed_from text None tokens
