-- The element of a table, from the longest spellings of its rows.
use Rattle.std.proofs.Common.{subst, ap, ◌≡◌, ℕ, ◌<◌, ◌≤◌, Option, Some, None, Bool, true, false, cond, ltb, List, [], ◌∷◌, inl, inr, ⊎_elim, length, take, refl, sym, ◌∙◌, arith}
use Rattle.std.proofs.lemmas.Bool.{ltb-true, ltb-false}
use Rattle.cq_munch.specs.Longest.{IsLongest, LongestAt}
use Rattle.cq_munch.specs.declared.element.Found.{Found}
use Rattle.cq_munch.specs.declared.element.Spell.{Spell}
use Rattle.cq_munch.specs.Language.{Language, Takes}
use Rattle.cq_munch.specs.Table.{Row, InTable, table, better, found_of}

-- what one language takes, another takes that has it, and nothing longer
module _ (lang other : Language) (at mode : ℕ) (text : List ℕ) (up : (spell : Spell) (s : List ℕ) → lang.tried at mode text spell s → other.tried at mode text spell s)
    (same : (spell : Spell) (s : List ℕ) → other.mode_behind mode spell s ≡ lang.mode_behind mode spell s) where
  pub carried_some : (f : Found) → ((spell : Spell) (m : ℕ) → f.units < m → m ≤ length text → other.tried at mode text spell (take m text) → lang.tried at mode text spell (take m text))
      → Takes lang at mode text (Some f) → Takes other at mode text (Some f)
  carried_some f down h = (
    record {
      some = h.0.some;
      within = h.0.within;
      spelled = (f.spell, up f.spell (take f.units text) h.1);
      longest = λ m more within x. h.0.longest m more within (x.0, down x.0 m more within x.1);
    },
    up f.spell (take f.units text) h.1,
    h.2 ∙ sym (same f.spell (take f.units text)),
  )

  pub carried : ((spell : Spell) (m : ℕ) → 0 < m → m ≤ length text → other.tried at mode text spell (take m text) → lang.tried at mode text spell (take m text)) → (r : Option Found)
      → Takes lang at mode text r → Takes other at mode text r
  carried down None h = λ m some within x. h m some within (x.0, down x.0 m some within x.1)
  carried down (Some f) h = carried_some f (λ spell m more within x. down spell m (omega arith) within x) h

module _ (at mode : ℕ) (text : List ℕ) where
  pub no_rows : Takes (table []) at mode text None
  no_rows = λ m some within h. h.1

  module _ (row : Row) (rows : List Row) where
    found_by : Option ℕ → Option Found
    found_by len = found_of row.spell mode len

    -- the row's own
    from_row : (n : ℕ) → IsLongest row.set text n → ((m : ℕ) → n < m → m ≤ length text → (spell : Spell) → InTable rows spell (take m text) → ⊥)
        → Takes (table (row ∷ rows)) at mode text (Some (record { spell = row.spell; units = n; mode = mode }))
    from_row n h none = (
      record {
        some = h.some;
        within = h.within;
        spelled = (row.spell, inl (refl, h.spelled));
        longest = λ m more within k. ⊎_elim (λ own. h.longest m more within own.1) (λ other. none m more within k.0 other) k.1;
      },
      inl (refl, h.spelled),
      refl,
    )

    -- another row's
    from_rows : (f : Found) → Takes (table rows) at mode text (Some f) → ((m : ℕ) → f.units < m → m ≤ length text → row.set (take m text) → ⊥)
        → Takes (table (row ∷ rows)) at mode text (Some f)
    from_rows f h none =
        carried_some (table rows) (table (row ∷ rows)) at mode text (λ spell s x. inr x) (λ spell s. refl) f
        (λ spell m more within x. ⊎_elim (λ own. absurd (none m more within own.1)) (λ other. other) x) h

    by_length : (n : ℕ) (f : Found) (b : Bool) → ltb n f.units ≡ b → IsLongest row.set text n → Takes (table rows) at mode text (Some f)
        → Takes (table (row ∷ rows)) at mode text (cond b (Some f) (Some (record { spell = row.spell; units = n; mode = mode })))
    by_length n f true is h k =
        let less = ltb-true n f.units is in from_rows f k (λ m more within own. h.longest m (omega arith) within own)
    by_length n f false is h k =
        let more_or_same = ltb-false n f.units is in
        from_row n h (λ m more within spell other. k.0.longest m (omega arith) within (spell, other))

    -- one row more
    pub one_row : (len : Option ℕ) (r : Option Found) → LongestAt row.set text len → Takes (table rows) at mode text r → Takes (table (row ∷ rows)) at mode text (better (found_of row.spell mode len) r)
    one_row None None h k = λ m some within x. ⊎_elim (λ own. h m some within own.1) (λ other. k m some within (x.0, other)) x.1
    one_row None (Some f) h k = from_rows f k (λ m more within own. h m (let some = k.0.some in omega arith) within own)
    one_row (Some n) None h k = from_row n h (λ m more within spell other. k m (let some = h.some in omega arith) within (spell, other))
    one_row (Some n) (Some f) h k = by_length n f (ltb n f.units) refl h k

-- one row more, by what `found_of` and `better` answered
pub row_more : (at mode : ℕ) (text : List ℕ) (row : Row) (rows : List Row) (len : Option ℕ) (own r all : Option Found) → own ≡ found_of row.spell mode len → all ≡ better own r → LongestAt row.set text len
    → Takes (table rows) at mode text r → Takes (table (row ∷ rows)) at mode text all
row_more at mode text row rows len own r all own_is all_is h k =
    subst (Takes (table (row ∷ rows)) at mode text) (sym (all_is ∙ ap (λ v. better v r) own_is)) (one_row at mode text row rows len r h k)

better_none : (a : Option Found) → better a None ≡ a
better_none None = refl
better_none (Some f) = refl

-- a table of one row
pub one_row_taken : (at mode : ℕ) (text : List ℕ) (row : Row) (len : Option ℕ) (own : Option Found) → own ≡ found_of row.spell mode len → LongestAt row.set text len → Takes (table (row ∷ [])) at mode text own
one_row_taken at mode text row len own is h = row_more at mode text row [] len own None own is (sym (better_none own)) h (no_rows at mode text)
