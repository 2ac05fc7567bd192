-- No spelling is of two kinds.
use Rattle.std.proofs.Common.{◌≡◌, ℕ, List, [], ◌∷◌, refl}
use Rattle.std.proofs.lemmas.Bool.{both_ways}
use Rattle.cq_munch.specs.Language.{HasOneKind}
use Rattle.cq_munch.proofs.OneKind.{of_marked}
use Rattle.cq_munch.specs.declared.element.Spell.{Spell}
use Rattle.cq_munch.specs.declared.element.Spell.TheVariants.{Blank, Comment, Token}
use Rattle.cq_base.specs.declared.token.Class.TheVariants.{Ident, Word, Literal, Punct}
use Rattle.cq_lex_any.specs.Any.{plain, any, Rows}
use Rattle.cq_lex_any.specs.Apart.{blank_ends_run}

rows_of_one : (s : List ℕ) (a b : Spell) → Rows a s → Rows b s → a ≡ b
rows_of_one [] Blank b h k = absurd h
rows_of_one [] Comment b h k = absurd h
rows_of_one [] (Token Ident) b h k = absurd h.0
rows_of_one [] (Token Word) b h k = absurd h
rows_of_one [] (Token Literal) b h k = absurd h.0
rows_of_one [] (Token Punct) b h k = absurd h
rows_of_one (c ∷ s) Comment b h k = absurd h
rows_of_one (c ∷ s) (Token Word) b h k = absurd h
rows_of_one (c ∷ s) a Comment h k = absurd k
rows_of_one (c ∷ s) a (Token Word) h k = absurd k
rows_of_one (c ∷ s) Blank Blank h k = refl
rows_of_one (c ∷ s) (Token Ident) (Token Ident) h k = refl
rows_of_one (c ∷ s) (Token Literal) (Token Literal) h k = refl
rows_of_one (c ∷ s) (Token Punct) (Token Punct) h k = refl
rows_of_one (c ∷ s) (Token Ident) (Token Literal) h k = absurd (both_ways _ h.1 k.1)
rows_of_one (c ∷ s) (Token Literal) (Token Ident) h k = absurd (both_ways _ k.1 h.1)
rows_of_one (c ∷ []) Blank (Token Ident) h k = absurd (both_ways _ (blank_ends_run c h) k.0.0)
rows_of_one (c ∷ []) Blank (Token Literal) h k = absurd (both_ways _ (blank_ends_run c h) k.0.0)
rows_of_one (c ∷ []) Blank (Token Punct) h k = absurd (both_ways _ k.0 h)
rows_of_one (c ∷ []) (Token Ident) Blank h k = absurd (both_ways _ (blank_ends_run c k) h.0.0)
rows_of_one (c ∷ []) (Token Literal) Blank h k = absurd (both_ways _ (blank_ends_run c k) h.0.0)
rows_of_one (c ∷ []) (Token Punct) Blank h k = absurd (both_ways _ h.0 k)
rows_of_one (c ∷ []) (Token Ident) (Token Punct) h k = absurd (both_ways _ k.1 h.0.0)
rows_of_one (c ∷ []) (Token Literal) (Token Punct) h k = absurd (both_ways _ k.1 h.0.0)
rows_of_one (c ∷ []) (Token Punct) (Token Ident) h k = absurd (both_ways _ h.1 k.0.0)
rows_of_one (c ∷ []) (Token Punct) (Token Literal) h k = absurd (both_ways _ h.1 k.0.0)
rows_of_one (c ∷ d ∷ s) Blank b h k = absurd h
rows_of_one (c ∷ d ∷ s) (Token Punct) b h k = absurd h
rows_of_one (c ∷ d ∷ s) a Blank h k = absurd k
rows_of_one (c ∷ d ∷ s) a (Token Punct) h k = absurd k

pub one_kind_of_any : HasOneKind any
one_kind_of_any = of_marked plain (λ at mode text s a b h k. rows_of_one s a b h k)
