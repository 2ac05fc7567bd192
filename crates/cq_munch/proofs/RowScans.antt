-- The elements that a table finds are those of its rows.
use Rattle.std.proofs.Common.{◌≡◌, ℕ, zero, suc, ◌+◌, ◌-◌, ◌≤◌, nat_le, Some, None, true, List, [], ◌∷◌, inl, inr, length, get_or, take, ⊎_elim, refl, sym, ap, subst, ◌∙◌, arith}
use Rattle.std.specs.List.{list_all}
use Rattle.std.proofs.lemmas.Bool.{leb-true, and_parts}
use Rattle.std.proofs.lemmas.List.{length-map}
use Rattle.cq_munch.specs.Automata.{Tables, class_at, row_from, row_of, HasRow, RowAt, rows_fit, fits}
use Rattle.cq_munch.specs.Behind.{SpellsAny}
use Rattle.cq_munch.specs.Language.{Takes}
use Rattle.cq_munch.specs.Pattern.{Pattern}
use Rattle.cq_munch.specs.Patterned.{Patterned, spells_of, patterns_of, rows_of}
use Rattle.cq_munch.specs.Table.{InTable, table}
use Rattle.cq_munch.specs.declared.element.Spell.{Spell}
use Rattle.cq_munch.specs.declared.element.Spell.TheVariants.{Blank}
use Rattle.cq_munch.proofs.Fitting.{row_is, none_past, first_fits, rest_fit, has_row}
use Rattle.cq_munch.proofs.OneKind.{OneKind}

-- ---- rows by patterns

in_patterns : (rows : Patterned) (spell : Spell) (s : List ℕ) → InTable (rows_of rows) spell s → SpellsAny (patterns_of rows) s
in_patterns [] spell s h = absurd h
in_patterns (row ∷ rows) spell s h = ⊎_elim (λ own. inl own.1) (λ other. inr (in_patterns rows spell s other)) h

-- a spelling of the row that a table finds
found_row : (texts : List (List ℕ)) (t : Tables) (rows : Patterned) (row : ℕ) → rows_fit (patterns_of rows) row texts t ≡ true → (s : List ℕ) (i : ℕ) (d : Spell) → row_of t s ≡ suc (row + i)
    → InTable (rows_of rows) (get_or (spells_of rows) i d) s
found_row texts t [] row right s i d is = let few = none_past texts t row right s in absurd (omega (arith, few, is))
found_row texts t (r ∷ rows) row right s zero d is =
    inl (refl, (row_is r.1 row texts t (first_fits texts t r.1 (patterns_of rows) row right) s).0 (omega (arith, is)))
found_row texts t (r ∷ rows) row right s (suc i) d is =
    inr (found_row texts t rows (suc row) (rest_fit texts t r.1 (patterns_of rows) row right) s i d (omega (arith, is)))

-- the row of a spelling is the one that the table finds
row_found : (texts : List (List ℕ)) (t : Tables) (rows : Patterned) (row : ℕ) → rows_fit (patterns_of rows) row texts t ≡ true → (s : List ℕ) (spell d : Spell) → InTable (rows_of rows) spell s
    → (i : ℕ) × (row_of t s ≡ suc (row + i)) × (spell ≡ get_or (spells_of rows) i d)
row_found texts t [] row right s spell d h = absurd h
row_found texts t (r ∷ rows) row right s spell d h =
    ⊎_elim
    (λ own. let is = (row_is r.1 row texts t (first_fits texts t r.1 (patterns_of rows) row right) s).1 own.1 in (0, omega (arith, is), own.0))
    (λ other.
    let later = row_found texts t rows (suc row) (rest_fit texts t r.1 (patterns_of rows) row right) s spell d other in
    let is = later.1 in
    (suc later.0, omega (arith, is), later.2))
    h

module _ (rows : Patterned) (texts : List (List ℕ)) (t : Tables) (right : fits (patterns_of rows) texts t ≡ true) where
  all_fit : rows_fit (patterns_of rows) 0 texts t ≡ true
  unfolding fits
  all_fit = right

  -- no spelling is of two kinds
  pub one_kind : OneKind (rows_of rows)
  one_kind s a b h k =
      let one = row_found texts t rows 0 all_fit s a a h in
      let other = row_found texts t rows 0 all_fit s b a k in
      let is = one.1 in
      let too = other.1 in
      let same : one.0 ≡ other.0 = omega (arith, is, too) in
      one.2 ∙ ap (λ i. get_or (spells_of rows) i a) same ∙ sym other.2

  pub is_found : (spell : Spell) (s : List ℕ) → InTable (rows_of rows) spell s → HasRow t s
  is_found spell s h = (has_row texts t (patterns_of rows) right s).1 (in_patterns rows spell s h)

  pub row_there : (s : List ℕ) → HasRow t s → (spell : Spell) × InTable (rows_of rows) spell s
  row_there s some = (get_or (spells_of rows) (row_of t s - 1) Blank, found_row texts t rows 0 all_fit s (row_of t s - 1) Blank (omega (arith, some)))

  -- ---- the element at the front

  module _ (spells : List Spell) (are : spells_of rows ≡ spells) (at mode : ℕ) (text : List ℕ) where
    pub none_there : RowAt t text None → Takes (table (rows_of rows)) at mode text None
    none_there h = λ m some within x. h m some within (is_found x.0 (take m text) x.1)

    pub one_there : (len row : ℕ) (spell : Spell) → RowAt t text (Some (len, row)) → spell ≡ get_or spells row spell → Takes (table (rows_of rows)) at mode text (Some (record { spell = spell; units = len; mode = mode }))
    one_there len row spell h is =
        let own : InTable (rows_of rows) spell (take len text) =
        subst (λ v. InTable (rows_of rows) v (take len text)) (ap (λ (v : List Spell). get_or v row spell) are ∙ sym is)
        (found_row texts t rows 0 all_fit (take len text) row spell (let row_is = h.1 in omega (arith, row_is))) in (
          record {
            some = h.0.some;
            within = h.0.within;
            spelled = (spell, own);
            longest = λ m more within x. h.0.longest m more within (is_found x.0 (take m text) x.1);
          },
          own,
          refl,
        )

    -- the table finds no row but these
    pub not_past : (len row : ℕ) → RowAt t text (Some (len, row)) → length spells ≤ row → ⊥
    not_past len row h past =
        let few = past_none (patterns_of rows) 0 all_fit (take len text) in
        let many : length (patterns_of rows) ≡ length spells = length-map rows (λ (r : Spell × Pattern). r.1) ∙ sym (length-map rows (λ (r : Spell × Pattern). r.0)) ∙ ap length are in
        let row_is = h.1 in
        omega (arith, few, many, row_is, past)
      where
        past_none : (ps : List Pattern) (first : ℕ) → rows_fit ps first texts t ≡ true → (s : List ℕ) → row_of t s ≤ first + length ps
        past_none [] first fit s = let few = none_past texts t first fit s in omega (arith, few)
        past_none (p ∷ ps) first fit s = let few = past_none ps (suc first) (rest_fit texts t p ps first fit) s in omega (arith, few)

-- ---- a character with which the longer spellings of no row begin

pub no_entry : (entries : List ℕ) → list_all (λ e. nat_le e 48) entries ≡ true → (k : ℕ) → get_or entries k 0 - 48 ≡ 0
no_entry [] h k = refl
no_entry (e ∷ entries) h zero = let low = leb-true e 48 (and_parts (nat_le e 48) _ h).0 in omega (arith, low)
no_entry (e ∷ entries) h (suc k) = no_entry entries (and_parts (nat_le e 48) _ h).1 k

-- nothing goes on from such a state
pub no_more : (t : Tables) (n : ℕ) → list_all (λ e. nat_le e 48) (get_or t.steps n []) ≡ true → (d : ℕ) (s : List ℕ) → row_from t (suc n) (d ∷ s) ≡ 0
no_more t n stops d s = ap (λ e. row_from t e s) (no_entry (get_or t.steps n []) stops (class_at t.classes d))
