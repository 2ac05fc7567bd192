-- A semicolon that is inserted stands on the last line of the token before it.
use Rattle.std.proofs.Common.{◌≡◌, ℕ, Option, Some, None, Bool, true, false, if◌then◌else◌, List, [], ◌∷◌, ◌++◌, refl, sym, subst, arith}
use Rattle.std.specs.Prelude.{⊤}
use Rattle.cq_base.specs.declared.token.Spelled.{Spelled}
use Rattle.cq_base.specs.declared.token.Token.{Token}
use Rattle.cq_lex_go.specs.Semicolons.{completed, completed_from, between, semicolon_behind, ending, may_end, has_feed, end_of}
use Rattle.cq_work.specs.Bounds.{IsWithin}
use Rattle.cq_work.proofs.Scalars.{one-spelling}
use Rattle.cq_work.proofs.Standing.{Stand}

module _ (most lines : ℕ) where
  -- a token with which a statement may end, which ends on the line, or none
  abbrev EndsOn : ℕ → Option Token → Type 0
  EndsOn line None = ⊤
  EndsOn line (Some t) = (t.last_line ≡ line) × IsWithin most lines t

  semicolon_within : (t : Token) → IsWithin most lines t → IsWithin most lines (semicolon_behind t).token
  semicolon_within t is =
      let bytes = is.bytes in
      let first = is.first in
      let order = is.in_order in
      record { bytes = omega (arith, bytes); first = omega (arith, first, order); in_order = omega arith; last = is.last }

  semicolon_stands : (line : ℕ) (t : Token) (rest : List Spelled) → t.last_line ≡ line → IsWithin most lines t → Stand most lines line rest → Stand most lines line (semicolon_behind t ∷ rest)
  semicolon_stands line t rest same is stand = (
    omega (arith, same),
    semicolon_within t is,
    one-spelling 59 (omega arith) refl,
    subst (λ l. Stand most lines l rest) (sym same) stand,
  )

  stand_if : (b : Bool) (line : ℕ) (t : Token) (rest : List Spelled) → t.last_line ≡ line → IsWithin most lines t → Stand most lines line rest → Stand most lines line ((if b then semicolon_behind t ∷ [] else []) ++ rest)
  stand_if true line t rest same is stand = semicolon_stands line t rest same is stand
  stand_if false line t rest same is stand = stand

  stand_between : (text : List ℕ) (last : Option Token) (line to : ℕ) (rest : List Spelled) → EndsOn line last → Stand most lines line rest → Stand most lines line (between text last to ++ rest)
  stand_between text None line to rest ends stand = stand
  stand_between text (Some t) line to rest ends stand = stand_if (has_feed text (end_of t) to) line t rest ends.0 ends.1 stand

  ends_if : (b : Bool) (t : Token) → IsWithin most lines t → EndsOn t.last_line (if b then Some t else None)
  ends_if true t is = (refl, is)
  ends_if false t is = tt

  completed_stand : (text : List ℕ) (last : Option Token) (line : ℕ) (tokens : List Spelled) → EndsOn line last → Stand most lines line tokens → Stand most lines line (completed_from text last tokens)
  completed_stand text None line [] ends stand = tt
  completed_stand text (Some t) line [] ends stand = semicolon_stands line t [] ends.0 ends.1 tt
  completed_stand text last line (s ∷ tokens) ends stand =
      stand_between text last line s.token.start (s ∷ completed_from text (ending s) tokens) ends
      (stand.0, stand.1, stand.2, completed_stand text (ending s) s.token.last_line tokens (ends_if (may_end s.token.class s.text) s.token stand.1) stand.3)

pub semicolons_stand : (most lines : ℕ) (text : List ℕ) (tokens : List Spelled) → Stand most lines 0 tokens → Stand most lines 0 (completed text tokens)
semicolons_stand most lines text tokens stand = completed_stand most lines text None 0 tokens tt stand
