-- No spelling is of two kinds: what is enough for it, row by row and opener by opener.
use Rattle.std.proofs.Common.{◌≡◌, ℕ, Bool, true, false, List, [], ◌∷◌, get_or, sym, ◌∙◌, ⊎_elim}
use Rattle.std.specs.Prelude.{MatchBool}
use Rattle.cq_munch.specs.Comments.{IsBlockComment, IsLineComment, blocks, lines}
use Rattle.cq_munch.specs.Language.{Language, has_mark, marked, HasOneKind}
use Rattle.cq_munch.specs.Table.{Row, InTable, starts}
use Rattle.cq_munch.specs.Tabled.{language_of, pick, sign, tried, unmarked_of}
use Rattle.cq_munch.specs.declared.element.Spell.{Spell}
use Rattle.cq_munch.specs.declared.element.Spell.TheVariants.{Blank, Comment}
use Rattle.cq_munch.specs.declared.ends.LineEnds.{LineEnds}

abbrev pub OneKind : List Row → Type 0
OneKind rows = (s : List ℕ) (a b : Spell) → InTable rows a s → InTable rows b s → a ≡ b

pub no_kind : OneKind []
no_kind s a b h k = absurd h

-- one row more: what it spells is of no other kind
pub one_more : (row : Row) (rows : List Row) → OneKind rows → ((s : List ℕ) (b : Spell) → row.set s → InTable rows b s → row.spell ≡ b) → OneKind (row ∷ rows)
one_more row rows rest same s a b h k =
    ⊎_elim
    (λ own. ⊎_elim (λ too. own.0 ∙ sym too.0) (λ other. own.0 ∙ same s b own.1 other) k)
    (λ other. ⊎_elim (λ own. sym (own.0 ∙ same s a own.1 other)) (λ too. rest s a b other too) k)
    h

pub one_row : (row : Row) → OneKind (row ∷ [])
one_row row = one_more row [] no_kind (λ s b own other. absurd other)

pub one_block : OneKind blocks
one_block = one_row (record { spell = Comment; set = IsBlockComment })

pub one_line : (ends : LineEnds) → OneKind (lines ends)
one_line ends = one_row (record { spell = Comment; set = IsLineComment ends })

pub one_sign : (spell : Spell) (c : ℕ) → OneKind (sign spell c ∷ [])
one_sign spell c = one_row (sign spell c)

-- ---- a language

by_test : (t : Bool) (P Q : Spell → Type 0) (a b : Spell) → (P a → P b → a ≡ b) → (Q a → Q b → a ≡ b) → MatchBool t (P a) (Q a) → MatchBool t (P b) (Q b) → a ≡ b
by_test true P Q a b p q h k = p h k
by_test false P Q a b p q h k = q h k

pub of_marked : (lang : Language) → HasOneKind lang → HasOneKind (marked lang)
of_marked lang one at mode text s a b h k =
    by_test (has_mark at text) (λ x. (x ≡ Blank) × (s ≡ 65279 ∷ [])) (λ x. lang.tried at mode text x s) a b (λ x y. x.0 ∙ sym y.0) (one at mode text s a b) h k

-- ---- the language of a table

either : (t : Bool) (rows others : List Row) → OneKind rows → OneKind others → OneKind (pick t rows others)
either true rows others h k = h
either false rows others h k = k

-- the rows beside each test have one kind, and the others too
abbrev pub OneKinds : List (Bool × List Row) → List Row → Type 0
OneKinds [] rows = OneKind rows
OneKinds (own ∷ more) rows = OneKind own.1 × OneKinds more rows

pub of_tests : (tests : List (Bool × List Row)) (rows : List Row) → OneKinds tests rows → OneKind (tried tests rows)
of_tests [] rows h = h
of_tests (own ∷ more) rows h = either own.0 own.1 (tried more rows) h.0 (of_tests more rows h.1)

pub of_language : (is_blank : ℕ → ℕ → Bool) (rows : ℕ → List ℕ → List Row) (behind : ℕ → Spell → List ℕ → ℕ) → ((mode : ℕ) (text : List ℕ) → OneKind (rows mode text)) → HasOneKind (language_of is_blank rows behind)
of_language is_blank rows behind one =
    of_marked (unmarked_of is_blank rows behind)
    (λ at mode text s. either (starts (is_blank mode) text) (sign Blank (get_or text 0 0) ∷ []) (rows mode text) (one_sign Blank (get_or text 0 0)) (one mode text) s)
