-- The tokens at which the control flow of a text can branch.
use Rattle.std.specs.Prelude.{◌&&◌, ◌||◌, not, ℕ, ◌+◌, Bool, true, false, List, [], ◌∷◌, codes, if◌then◌else◌}
use Rattle.std.specs.List.{list_any}
use Rattle.std.specs.Str.{bytes_eq}
use Rattle.cq_base.specs.declared.lang.Lang.{Lang}
use Rattle.cq_base.specs.declared.lang.Lang.TheVariants as lang
use Rattle.cq_base.specs.declared.token.Class.{Class}
use Rattle.cq_base.specs.declared.token.Class.TheVariants as class
use Rattle.cq_base.specs.declared.token.Spelled.{Spelled}

-- the spellings that every language with decisions has, and those of its own
abbrev pub decisions : Lang → List (List ℕ)
decisions lang.Any = []
decisions lang.Go = codes "if" ∷ codes "for" ∷ codes "case" ∷ codes "&&" ∷ codes "||" ∷ []
decisions lang.C = codes "if" ∷ codes "for" ∷ codes "while" ∷ codes "case" ∷ codes "&&" ∷ codes "||" ∷ codes "?" ∷ []
decisions lang.Java = codes "if" ∷ codes "for" ∷ codes "while" ∷ codes "case" ∷ codes "&&" ∷ codes "||" ∷ codes "->" ∷ codes "?" ∷ []
decisions lang.Js = codes "if" ∷ codes "for" ∷ codes "while" ∷ codes "case" ∷ codes "&&" ∷ codes "||" ∷ codes "?" ∷ codes "??" ∷ []
decisions lang.Ts = codes "if" ∷ codes "for" ∷ codes "while" ∷ codes "case" ∷ codes "&&" ∷ codes "||" ∷ codes "??" ∷ []

-- the text is one of these
abbrev pub is_among : List (List ℕ) → List ℕ → Bool
is_among texts text = list_any (λ t. bytes_eq text t) texts

-- Directly after `<` or `,` a question mark of Java is a wildcard of a type (JLS 4.5.1), and decides nothing.
abbrev pub is_wildcard : Lang → List ℕ → List ℕ → Bool
is_wildcard lang.Java before text = bytes_eq text (codes "?") && is_among (codes "<" ∷ codes "," ∷ []) before
is_wildcard _ before text = false

abbrev pub decides : Lang → List ℕ → List ℕ → Bool
decides l before text = is_among (decisions l) text && not (is_wildcard l before text)

-- a name or a literal decides nothing, whatever its spelling
abbrev pub may_decide : Class → Bool
may_decide class.Ident = false
may_decide class.Word = true
may_decide class.Literal = false
may_decide class.Punct = true

-- what follows the question mark of a name or a value that is optional in TypeScript
abbrev pub after_optional : List (List ℕ)
after_optional = codes ":" ∷ codes ")" ∷ codes "," ∷ codes "]" ∷ codes "}" ∷ codes ";" ∷ []

-- Any other question mark of TypeScript decides, at the token after it.
abbrev pub is_chosen : Lang → List ℕ → List ℕ → Bool
is_chosen lang.Ts before text = bytes_eq before (codes "?") && not (is_among after_optional text)
is_chosen _ before text = false

abbrev pub is_decision : Lang → List ℕ → Spelled → Bool
is_decision l before t = (may_decide t.token.class && decides l before t.text) || is_chosen l before t.text

-- how many of the tokens decide, the one before them having this text
abbrev pub decisions_after : Lang → List ℕ → List Spelled → ℕ
decisions_after l before [] = 0
decisions_after l before (t ∷ tokens) = (if is_decision l before t then 1 else 0) + decisions_after l t.text tokens

-- 1 and the decisions; no token has no text
abbrev pub complexity : Lang → List Spelled → ℕ
complexity l tokens = 1 + decisions_after l [] tokens
