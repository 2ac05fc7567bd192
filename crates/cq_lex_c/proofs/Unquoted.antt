-- The element at a character that begins no text in quotes, no comment and no header name.
use Rattle.std.proofs.Common.{◌≡◌, ℕ, ◌+◌, ◌<◌, Option, None, true, false, ◌&&◌, ◌==◌, cond, List, ◌∷◌, length, drop, refl, sym, ap, subst, ◌∙◌}
use Rattle.std.specs.Prelude.{codes}
use Rattle.std.proofs.lemmas.Bool.{and_left, and_right, both_ways, eq-eqb}
use Rattle.cq_munch.specs.Characters.{characters}
use Rattle.cq_munch.specs.Lexed.{unit_at}
use Rattle.cq_munch.specs.Table.{begins}
use Rattle.cq_munch.specs.Tabled.{RowsTake}
use Rattle.cq_munch.specs.declared.element.Found.{Found}
use Rattle.cq_munch.specs.declared.unit.Unit.{Unit}
use Rattle.cq_munch.proofs.CharacterTests.{apart_by}
use Rattle.cq_munch.proofs.Joining.{row_more}
use Rattle.cq_munch.proofs.Trying.{taken_at_test}
use Rattle.cq_munch.proofs.Texts.{from_unit}
use Rattle.cq_lex_c.specs.C.{is_unquoted, unquoted, rows, rows_at, tests, texts as text_row, prefixed, opens_header}
use Rattle.cq_lex_c.specs.Headers.{closes, has_header}
use Rattle.cq_lex_c.proofs.Fitting.{text_none, prefixed_none}

module _ (mode c : ℕ) (text : List ℕ) (r : Option Found) (is : is_unquoted c ≡ true) where
  other : (n : ℕ) → is_unquoted n ≡ false → (c == n) ≡ false
  other n fails = apart_by is_unquoted n fails c is

  apart : (n : ℕ) → is_unquoted n ≡ false → c ≡ n → ⊥
  apart n fails e = both_ways (c == n) (other n fails) (eq-eqb c n e)

  -- no header name begins with it
  no_header : opens_header mode (c ∷ text) ≡ false
  no_header =
      and_right (mode == 2) (has_header (c ∷ text))
      (ap (λ b. cond b (closes 62 false text) ((c == 34) && closes 34 false text)) (other 60 refl) ∙ ap (λ b. b && closes 34 false text) (other 34 refl))

  unquoted_taken : RowsTake unquoted mode (c ∷ text) r → RowsTake (rows_at mode (c ∷ text)) mode (c ∷ text) r
  unquoted_taken taken =
      taken_at_test (tests mode (c ∷ text)) rows mode (c ∷ text) r 3 (
        no_header,
        (
          and_left (c == 47) (begins (codes "*") text) (other 47 refl),
          (
            and_left (c == 47) (begins (codes "/") text) (other 47 refl),
            row_more 0 mode (c ∷ text) text_row (prefixed ∷ unquoted) None None r r refl refl (text_none (c ∷ text) (apart 34 refl) (apart 39 refl))
                (row_more 0 mode (c ∷ text) prefixed unquoted None None r r refl refl (prefixed_none (c ∷ text) (apart 117 refl) (apart 85 refl) (apart 76 refl)) taken),
          ),
        ),
      )

pub unquoted_at : (units : List Unit) (at mode : ℕ) (r : Option Found) → at < length units → is_unquoted (unit_at units at).ch ≡ true → RowsTake unquoted mode (drop at (characters units)) r → RowsTake (rows_at mode (drop at (characters units))) mode (drop at (characters units)) r
unquoted_at units at mode r inside is taken =
    let cut = from_unit units at inside in
    subst (λ t. RowsTake (rows_at mode t) mode t r) (sym cut)
    (unquoted_taken mode (unit_at units at).ch (drop (at + 1) (characters units)) r is (subst (λ t. RowsTake unquoted mode t r) cut taken))
