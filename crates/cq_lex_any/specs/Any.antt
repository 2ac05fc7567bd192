-- The elements of any text.
use Rattle.std.specs.Prelude.{ℕ, List, [], ◌∷◌, IsTrue, IsFalse, Bool, false, if◌then◌else◌}
use Rattle.std.specs.Char.{is_whitespace, is_ascii_digit}
use Rattle.std.specs.List.{AllByRecursion}
use Rattle.unicode_ident.specs.Ident.{is_xid_continue}
use Rattle.cq_munch.specs.declared.element.Spell.{Spell}
use Rattle.cq_munch.specs.declared.element.Spell.TheVariants.{Blank, Comment, Token}
use Rattle.cq_base.specs.declared.token.Class.{Class}
use Rattle.cq_base.specs.declared.token.Class.TheVariants.{Ident, Word, Literal, Punct}
use Rattle.cq_munch.specs.Language.{Language, marked}
use Rattle.cq_lex_any.specs.declared.run.Run.{Run}
use Rattle.cq_lex_any.specs.declared.run.Run.TheVariants.{Before, Inside}

abbrev pub Continues : ℕ → Type 0
Continues c = IsTrue (is_xid_continue c)

-- one or more characters that may continue an identifier
abbrev pub IsRun : List ℕ → Type 0
IsRun [] = ⊥
IsRun (c ∷ cs) = Continues c × AllByRecursion Continues cs

-- one character that passes
abbrev pub IsOne : (ℕ → Type 0) → List ℕ → Type 0
IsOne P [] = ⊥
IsOne P (c ∷ []) = P c
IsOne P (c ∷ d ∷ cs) = ⊥

abbrev pub begins_with_digit : List ℕ → Bool
begins_with_digit [] = false
begins_with_digit (c ∷ cs) = is_ascii_digit c

abbrev pub Rows : Spell → List ℕ → Type 0
Rows Blank s = IsOne (λ c. IsTrue (is_whitespace c)) s
Rows Comment s = ⊥
Rows (Token Ident) s = IsRun s × IsFalse (begins_with_digit s)
Rows (Token Literal) s = IsRun s × IsTrue (begins_with_digit s)
Rows (Token Punct) s = IsOne (λ c. IsFalse (is_whitespace c) × IsFalse (is_xid_continue c)) s
Rows (Token Word) s = ⊥

-- the rows, if there is no mark
abbrev pub plain : Language
plain = record { tried = λ at mode text spell s. Rows spell s; mode_behind = λ mode spell s. mode }

abbrev pub any : Language
any = marked plain

-- what continues from a run's state
abbrev pub run_rest : Run → List ℕ → Type 0
run_rest Before s = IsRun s
run_rest Inside s = AllByRecursion Continues s

-- what a run is, by its first character
abbrev pub class_of : ℕ → Class
class_of c = if is_ascii_digit c then Literal else Ident
