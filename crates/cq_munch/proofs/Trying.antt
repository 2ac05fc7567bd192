-- The element of a language of a table, from what its rows take.
use Rattle.std.proofs.Common.{◌≡◌, ◌==◌, ℕ, zero, suc, ◌+◌, ◌-◌, ◌<◌, ◌≤◌, Option, Some, None, Bool, true, false, List, [], ◌∷◌, length, take, drop, get_or, inl, ⊎_elim, refl, sym, ap, subst, ◌∙◌, arith, length-take-le}
use Rattle.std.proofs.lemmas.Bool.{both_ways, cases_Bool, eq-eqb, eqb-true}
use Rattle.std.proofs.lemmas.List.{take-map, length-map}
use Rattle.cq_munch.specs.Characters.{characters}
use Rattle.cq_munch.specs.Language.{Takes, has_mark}
use Rattle.cq_munch.specs.Lexed.{unit_at}
use Rattle.cq_munch.specs.Table.{Row, starts}
use Rattle.cq_munch.specs.Tabled.{RowsTake, language_of, pick, sign, tried, unmarked_of, with_blanks}
use Rattle.cq_munch.specs.declared.element.Found.{Found}
use Rattle.cq_munch.specs.declared.element.Spell.{Spell}
use Rattle.cq_munch.specs.declared.element.Spell.TheVariants.{Blank}
use Rattle.cq_munch.specs.declared.unit.Unit.{Unit}
use Rattle.cq_munch.proofs.Marks.{takes_mark_at, takes_unmarked}
use Rattle.cq_munch.proofs.Texts.{characters_from, from_unit}

-- a sign at the front
sign_taken : (spell : Spell) (mode c : ℕ) (text : List ℕ) → RowsTake (sign spell c ∷ []) mode (c ∷ text) (Some (record { spell = spell; units = 1; mode = mode }))
sign_taken spell mode c text = (
  record {
    some = omega arith;
    within = omega arith;
    spelled = (spell, inl (refl, refl));
    longest = λ m more within h. ⊎_elim (λ own. let one = ap length own.1 in let long = length-take-le m (c ∷ text) within in omega (arith, one, long, more)) (λ none. none) h.1;
  },
  inl (refl, refl),
  refl,
)

pub sign_there : (spell : Spell) (mode c : ℕ) (text : List ℕ) → starts (λ d. d == c) text ≡ true → RowsTake (sign spell c ∷ []) mode text (Some (record { spell = spell; units = 1; mode = mode }))
sign_there spell mode c [] is = absurd (cc)
sign_there spell mode c (d ∷ text) is = subst (λ e. RowsTake (sign spell e ∷ []) mode (d ∷ text) (Some (record { spell = spell; units = 1; mode = mode }))) (eqb-true d c is) (sign_taken spell mode d text)

pub no_sign : (spell : Spell) (mode c : ℕ) (text : List ℕ) → starts (λ d. d == c) text ≡ false → RowsTake (sign spell c ∷ []) mode text None
no_sign spell mode c [] is = λ m some within x. omega (arith, some, within)
no_sign spell mode c (d ∷ text) is = λ m some within x. ⊎_elim (λ own. other m some own.1) (λ none. none) x.1
  where
    other : (m : ℕ) → 0 < m → take m (d ∷ text) ≡ c ∷ [] → ⊥
    other zero some e = omega (arith, some)
    other (suc m) some e = both_ways (d == c) is (eq-eqb d c (cc))

-- the units from a place on
abbrev pub units_from : List Unit → ℕ → List Unit
units_from units at = take (length units - at) (drop at units)

-- an element of so many characters has so many units there
pub units_there : (units : List Unit) (at n : ℕ) → n ≤ length (drop at (characters units)) → n ≡ length (take n (units_from units at))
units_there units at n within =
    let same = ap length (characters_from units at) in
    let many = length-map (units_from units at) (λ (u : Unit). u.ch) in
    sym (length-take-le n (units_from units at) (omega (arith, within, same, many)))

-- what the rows take of these units
pub from_rest : (rows : ℕ → List ℕ → List Row) (units : List Unit) (at mode : ℕ) (r : Option Found) → RowsTake (rows mode (characters (units_from units at))) mode (characters (units_from units at)) r
    → RowsTake (rows mode (drop at (characters units))) mode (drop at (characters units)) r
from_rest rows units at mode r h = subst (λ t. RowsTake (rows mode t) mode t r) (characters_from units at) h

-- the rows of one test hold it, if those before fail; past all tests the rows that are left
abbrev pub At : (List Row → Type 0) → List (Bool × List Row) → List Row → ℕ → Type 0
At P [] rows n = P rows
At P (own ∷ more) rows zero = (own.0 ≡ true) × P own.1
At P (own ∷ more) rows (suc n) = (own.0 ≡ false) × At P more rows n

pub at_test : (P : List Row → Type 0) (tests : List (Bool × List Row)) (rows : List Row) (n : ℕ) → At P tests rows n → P (tried tests rows)
at_test P [] rows n h = h
at_test P (own ∷ more) rows zero h = subst (λ b. P (pick b own.1 (tried more rows))) (sym h.0) h.1
at_test P (own ∷ more) rows (suc n) h = subst (λ b. P (pick b own.1 (tried more rows))) (sym h.0) (at_test P more rows n h.1)

pub taken_at_test : (tests : List (Bool × List Row)) (rows : List Row) (mode : ℕ) (text : List ℕ) (r : Option Found) (n : ℕ) → At (λ rs. RowsTake rs mode text r) tests rows n → RowsTake (tried tests rows) mode text r
taken_at_test tests rows mode text r n h = at_test (λ rs. RowsTake rs mode text r) tests rows n h

module _ (is_blank : ℕ → ℕ → Bool) (rows : ℕ → List ℕ → List Row) (behind : ℕ → Spell → List ℕ → ℕ) (units : List Unit) (at mode : ℕ) (inside : at < length units) where
  first_is : starts (is_blank mode) (drop at (characters units)) ≡ is_blank mode (unit_at units at).ch
  first_is = ap (starts (is_blank mode)) (from_unit units at inside)

  -- a byte order mark
  pub mark_there : (next : ℕ) → has_mark at (drop at (characters units)) ≡ true → next ≡ behind mode Blank ((unit_at units at).ch ∷ [])
      → Takes (language_of is_blank rows behind) at mode (drop at (characters units)) (Some (record { spell = Blank; units = 1; mode = next }))
  mark_there next marked is = takes_mark_at (unmarked_of is_blank rows behind) units at mode next inside marked is

  -- a blank, which is known by its character
  pub blank_there : (next : ℕ) → is_blank mode (unit_at units at).ch ≡ true → next ≡ behind mode Blank ((unit_at units at).ch ∷ [])
      → Takes (language_of is_blank rows behind) at mode (drop at (characters units)) (Some (record { spell = Blank; units = 1; mode = next }))
  blank_there next blank is = ⊎_elim (λ marked. mark_there next marked is) unmarked (cases_Bool (has_mark at (drop at (characters units))))
    where
      unmarked : has_mark at (drop at (characters units)) ≡ false → Takes (language_of is_blank rows behind) at mode (drop at (characters units)) (Some (record { spell = Blank; units = 1; mode = next }))
      unmarked none =
          let c = (unit_at units at).ch in
          let text = drop (at + 1) (characters units) in
          let own = taken_at_test ((is_blank mode c, sign Blank c ∷ []) ∷ []) (rows mode (c ∷ text)) mode (c ∷ text) (Some (record { spell = Blank; units = 1; mode = mode })) 0 (blank, sign_taken Blank mode c text) in
          takes_unmarked (unmarked_of is_blank rows behind) at mode (drop at (characters units)) none (Some (record { spell = Blank; units = 1; mode = next }))
          (subst (λ t. Takes (unmarked_of is_blank rows behind) at mode t (Some (record { spell = Blank; units = 1; mode = next }))) (sym (from_unit units at inside)) (own.0, own.1, is))

  -- no blank and no mark
  module _ (visible : is_blank mode (unit_at units at).ch ≡ false) (none : has_mark at (drop at (characters units)) ≡ false) where
    own : (r : Option Found) → RowsTake (rows mode (drop at (characters units))) mode (drop at (characters units)) r → RowsTake (with_blanks is_blank rows mode (drop at (characters units))) mode (drop at (characters units)) r
    own r h =
        let text = drop at (characters units) in
        taken_at_test ((starts (is_blank mode) text, sign Blank (get_or text 0 0) ∷ []) ∷ []) (rows mode text) mode text r 1 (first_is ∙ visible, h)

    pub none_there : RowsTake (rows mode (drop at (characters units))) mode (drop at (characters units)) None → Takes (language_of is_blank rows behind) at mode (drop at (characters units)) None
    none_there h = takes_unmarked (unmarked_of is_blank rows behind) at mode (drop at (characters units)) none None (own None h)

    pub some_there : (found : Found) (next : ℕ) → RowsTake (rows mode (drop at (characters units))) mode (drop at (characters units)) (Some found)
        → next ≡ behind mode found.spell (characters (take found.units (units_from units at)))
        → Takes (language_of is_blank rows behind) at mode (drop at (characters units)) (Some (record { spell = found.spell; units = found.units; mode = next }))
    some_there found next h is =
        let all = own (Some found) h in
        let part = sym (take-map (λ (u : Unit). u.ch) found.units (units_from units at)) ∙ ap (take found.units) (characters_from units at) in
        takes_unmarked (unmarked_of is_blank rows behind) at mode (drop at (characters units)) none (Some (record { spell = found.spell; units = found.units; mode = next }))
        (all.0, all.1, is ∙ ap (behind mode found.spell) part)
