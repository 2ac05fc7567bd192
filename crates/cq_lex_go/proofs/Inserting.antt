-- Semicolons between tokens, one token after the other.
use Rattle.std.proofs.Common.{◌≡◌, ℕ, ◌+◌, ◌≤◌, Option, Some, None, Bool, true, false, cond, List, [], ◌∷◌, ◌++◌, length, refl, ◌∙◌, arith}
use Rattle.std.specs.Prelude.{IfSome}
use Rattle.std.proofs.lemmas.List.{append_assoc}
use Rattle.cq_base.specs.declared.token.Spelled.{Spelled}
use Rattle.cq_base.specs.declared.token.Token.{Token}
use Rattle.cq_munch.specs.Lexed.{TokensFollow}
use Rattle.cq_lex_go.specs.Semicolons.{may_end, end_of, ending, between, completed_from, completed}

-- the byte after the last token, where a statement may end with it
abbrev pub end_before : Option Token → ℕ
end_before None = 0
end_before (Some last) = end_of last

-- what is there, with what comes of the tokens that are left, is all
pub record SoFar (text : List ℕ) (tokens all : List Spelled) (last : Option Token) (rest : List Spelled) : Type 0 where
  pub sum : all ++ completed_from text last rest ≡ completed text tokens
  pub follow : TokensFollow (end_before last) rest (length text)

pub none_so_far : (text : List ℕ) (tokens : List Spelled) → TokensFollow 0 tokens (length text) → SoFar text tokens [] None tokens
none_so_far text tokens follow = record { sum = refl; follow = follow }

follow_from : (a b : ℕ) (ts : List Spelled) (to : ℕ) → a ≤ b → TokensFollow b ts to → TokensFollow a ts to
follow_from a b [] to less h = omega (arith, less, h)
follow_from a b (t ∷ ts) to less h = (let first = h.0 in omega (arith, less, first), h.1, h.2)

end_before_cond : (b : Bool) (t : Token) → end_before (cond b (Some t) None) ≤ end_of t
end_before_cond true t = omega arith
end_before_cond false t = omega arith

-- a token with what is inserted before it
pub one_more : (text : List ℕ) (tokens all : List Spelled) (last : Option Token) (t : Spelled) (rest : List Spelled) → SoFar text tokens all last (t ∷ rest) → SoFar text tokens ((all ++ between text last t.token.start) ++ t ∷ []) (ending t) rest
one_more text tokens all last t rest h = record {
  sum =
      append_assoc (all ++ between text last t.token.start) (t ∷ []) (completed_from text (ending t) rest)
      ∙ append_assoc all (between text last t.token.start) (t ∷ completed_from text (ending t) rest)
      ∙ h.sum;
  follow = follow_from (end_before (ending t)) (end_of t.token) rest (length text) (end_before_cond (may_end t.token.class t.text) t.token) h.follow.2;
}

follow_end : (from : ℕ) (ts : List Spelled) (to : ℕ) → TokensFollow from ts to → from ≤ to
follow_end from [] to h = h
follow_end from (u ∷ us) to h =
    let later = follow_end (u.token.start + u.token.len) us to h.2 in let first = h.0 in omega (arith, later, first)

-- the next token begins after the end of the last one, and within the text
pub before_next : (text : List ℕ) (tokens all : List Spelled) (last : Option Token) (t : Spelled) (rest : List Spelled) → SoFar text tokens all last (t ∷ rest) → IfSome last (λ l. l.start + l.len ≤ t.token.start)
before_next text tokens all None t rest h = tt
before_next text tokens all (Some last) t rest h = h.follow.0

pub next_within : (text : List ℕ) (tokens all : List Spelled) (last : Option Token) (t : Spelled) (rest : List Spelled) → SoFar text tokens all last (t ∷ rest) → t.token.start ≤ length text
next_within text tokens all last t rest h =
    let inside = follow_end (t.token.start + t.token.len) rest (length text) h.follow.2 in omega (arith, inside)
