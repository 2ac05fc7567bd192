-- Semicolons are inserted after the last tokens of lines.
use Rattle.std.proofs.Common.{◌≡◌, ℕ, Bool, true, false, ◌&&◌, Some, None, if◌then◌else◌, List, [], ◌∷◌, ◌++◌, refl, ap, ◌∙◌}
use Rattle.cq_base.specs.declared.token.Spelled.{Spelled}
use Rattle.cq_base.specs.declared.token.Token.{Token}
use Rattle.cq_lex_go.specs.Semicolons.{may_end, end_of, has_feed, semicolon_behind, ending, between, behind_last, completed_from}
use Rattle.cq_lex_go.specs.FinalTokens.{is_final, with_semicolons, SemicolonsEndLines}

put_where : (b : Bool) (s : Spelled) (rest : List Spelled) → (if b then s ∷ [] else []) ++ rest ≡ (if b then s ∷ rest else rest)
put_where true s rest = refl
put_where false s rest = refl

-- before what is left, where a statement may end with the token or not
in_front : (text : List ℕ) (b : Bool) (t : Token) (to : ℕ) (rest : List Spelled)
    → between text (if b then Some t else None) to ++ rest ≡ (if b && has_feed text (end_of t) to then semicolon_behind t ∷ rest else rest)
in_front text true t to rest = put_where (has_feed text (end_of t) to) (semicolon_behind t) rest
in_front text false t to rest = refl

at_end : (b : Bool) (t : Token) → behind_last (if b then Some t else None) ≡ (if b && true then semicolon_behind t ∷ [] else [])
at_end true t = refl
at_end false t = refl

-- what comes after a token
behind : (text : List ℕ) (t : Spelled) (ts : List Spelled)
    → completed_from text (ending t) ts ≡ (if may_end t.token.class t.text && is_final text t ts then semicolon_behind t.token ∷ with_semicolons text ts else with_semicolons text ts)
behind text t [] = at_end (may_end t.token.class t.text) t.token
behind text t (u ∷ us) =
    ap (λ rest. between text (ending t) u.token.start ++ u ∷ rest) (behind text u us)
    ∙ in_front text (may_end t.token.class t.text) t.token u.token.start (with_semicolons text (u ∷ us))

pub end_lines : SemicolonsEndLines
end_lines text [] = refl
end_lines text (t ∷ ts) = ap (λ rest. t ∷ rest) (behind text t ts)
