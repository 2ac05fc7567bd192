-- The semicolons of a text by the last token of each line (Go specification, "Semicolons").
use Rattle.std.specs.Prelude.{◌≡◌, ℕ, Bool, true, ◌&&◌, if◌then◌else◌, List, [], ◌∷◌}
use Rattle.cq_base.specs.declared.token.Spelled.{Spelled}
use Rattle.cq_lex_go.specs.Semicolons.{may_end, end_of, has_feed, semicolon_behind, completed}

-- a token is the last one of its line: there is a line feed between it and the next one, or no token follows
abbrev pub is_final : List ℕ → Spelled → List Spelled → Bool
is_final text t [] = true
is_final text t (u ∷ us) = has_feed text (end_of t.token) u.token.start

-- a semicolon comes directly after each last token of a line with which a statement may end
abbrev pub with_semicolons : List ℕ → List Spelled → List Spelled
with_semicolons text [] = []
with_semicolons text (t ∷ ts) =
    t ∷ (if may_end t.token.class t.text && is_final text t ts then semicolon_behind t.token ∷ with_semicolons text ts else with_semicolons text ts)

-- they are all that is inserted
abbrev pub SemicolonsEndLines : Type 0
SemicolonsEndLines = (text : List ℕ) (tokens : List Spelled) → completed text tokens ≡ with_semicolons text tokens
