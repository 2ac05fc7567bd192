-- The inserted semicolons take no token away.
use Rattle.std.proofs.Common.{ℕ, ◌≤◌, Option, None, List, [], ◌∷◌, length, length-append, zero-le, arith}
use Rattle.cq_base.specs.declared.token.Spelled.{Spelled}
use Rattle.cq_base.specs.declared.token.Token.{Token}
use Rattle.cq_lex_go.specs.Semicolons.{ending, between, completed, completed_from}

none_lost_from : (text : List ℕ) (last : Option Token) (tokens : List Spelled) → length tokens ≤ length (completed_from text last tokens)
none_lost_from text last [] = zero-le
none_lost_from text last (t ∷ ts) =
    let all = length-append (between text last t.token.start) (t ∷ completed_from text (ending t) ts) in
    let rest = none_lost_from text (ending t) ts in
    omega arith

pub none_lost : (text : List ℕ) (tokens : List Spelled) → length tokens ≤ length (completed text tokens)
none_lost text tokens = none_lost_from text None tokens
