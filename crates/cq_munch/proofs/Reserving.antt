-- Names of which some words are reserved, and what a scanner finds.
use Rattle.std.proofs.Common.{◌≡◌, ℕ, ◌-◌, ◌<◌, not, true, Some, None, List, [], ◌∷◌, inl, inr, ⊎_elim, map, take, refl, sym, ap, ◌∙◌}
use Rattle.std.specs.List.{list_all}
use Rattle.std.proofs.lemmas.Bool.{and_parts, not-true, both_ways}
use Rattle.cq_base.specs.declared.token.Class.TheVariants.{Ident, Word}
use Rattle.cq_munch.specs.Automata.{Tables, entry_at, row_of}
use Rattle.cq_munch.specs.Behind.{any_takes_empty}
use Rattle.cq_munch.specs.Language.{Takes}
use Rattle.cq_munch.specs.Longest.{IsAmong}
use Rattle.cq_munch.specs.Pattern.{Pattern, Spells}
use Rattle.cq_munch.specs.Patterned.{FitsRows, Patterned, rows_of, rows_seen, with_reserved}
use Rattle.cq_munch.specs.PlainNames.{IsItselfBelow, plain_fits}
use Rattle.cq_munch.specs.Scanners.{IsScanner, is_name}
use Rattle.cq_munch.specs.Table.{InTable, table}
use Rattle.cq_munch.specs.declared.element.Found.{Found}
use Rattle.cq_munch.specs.declared.element.Spell.{Spell}
use Rattle.cq_munch.specs.declared.element.Spell.TheVariants.{Token}
use Rattle.cq_munch.proofs.OneKind.{OneKind}
use Rattle.cq_munch.proofs.RowScans.{one_kind, is_found}
use Rattle.cq_munch.proofs.Steps.{behind_word, word_if}
use Rattle.cq_munch.proofs.WordLists.{among_passes}
use Rattle.cq_munch.proofs.Seen.{in_seen, one_kind_seen, taken_seen}

-- words that are names, by computing
words_spelled : (stood : ℕ → ℕ) (name : Pattern) (words : List (List ℕ)) → list_all (λ w. any_takes_empty (behind_word (map stood w) (name ∷ []))) words ≡ true → (s : List ℕ) → IsAmong words s → Spells name (map stood s)
words_spelled stood name words all s among =
    ⊎_elim (λ own. own) (λ none. absurd none) (word_if (map stood s) (name ∷ []) (among_passes words (λ w. any_takes_empty (behind_word (map stood w) (name ∷ []))) s all among))

-- a scanner whose tests compute
pub scanner_of : (stood : ℕ → ℕ) (name : Pattern) (words : List (List ℕ)) (others : Patterned) (kinds : List ℕ) (spells : List Spell) (t : Tables) (texts : List (List ℕ)) → IsItselfBelow 128 stood
    → FitsRows ((Token Ident, name) ∷ others) texts spells t → plain_fits kinds t (entry_at t 0 97 - 1) 0 ≡ true → list_all (λ w. any_takes_empty (behind_word (map stood w) (name ∷ []))) words ≡ true
    → list_all (λ (row : Spell × Pattern). not (is_name row.0)) others ≡ true → IsScanner stood name words others kinds spells t
scanner_of stood name words others kinds spells t texts itself fits plain named no_names = record {
  texts = texts;
  state = entry_at t 0 97 - 1;
  fits = fits;
  plain = plain;
  itself = itself;
  words_named = words_spelled stood name words named;
  no_names = no_names;
}

-- a row that is no name
no_name : (others : Patterned) → list_all (λ (row : Spell × Pattern). not (is_name row.0)) others ≡ true → (spell : Spell) (s : List ℕ) → InTable (rows_of others) spell s → spell ≡ Token Ident → ⊥
no_name [] h spell s k is = k
no_name (row ∷ others) h spell s k is =
    let both = and_parts (not (is_name row.0)) _ h in
    ⊎_elim (λ own. both_ways (is_name row.0) (not-true _ both.0) (ap is_name (sym own.0 ∙ is))) (λ other. no_name others both.1 spell s other is) k

module _ (stood : ℕ → ℕ) (name : Pattern) (words : List (List ℕ)) (others : Patterned) (kinds : List ℕ) (spells : List Spell) (t : Tables) (is : IsScanner stood name words others kinds spells t) where
  -- each spelling is one of the rows before words are reserved
  pub unreserved : (spell : Spell) (s : List ℕ) → InTable (with_reserved stood name words others) spell s → (a : Spell) × InTable (rows_seen stood ((Token Ident, name) ∷ others)) a s
  unreserved spell s h =
      ⊎_elim
      (λ own. (Token Ident, inl (refl, own.1.0)))
      (λ h. ⊎_elim (λ word. (Token Ident, inl (refl, is.words_named s word.1))) (λ other. (spell, inr other)) h)
      h

  -- and the other way round, if it is no reserved word
  pub unless_reserved : (spell : Spell) (s : List ℕ) → (spell ≡ Token Ident → IsAmong words s → ⊥) → InTable (rows_seen stood ((Token Ident, name) ∷ others)) spell s → InTable (with_reserved stood name words others) spell s
  unless_reserved spell s free h = ⊎_elim (λ own. inl (own.0, (own.1, free own.0))) (λ other. inr (inr other)) h

  -- the table has a row for each spelling
  pub has_row : (spell : Spell) (s : List ℕ) → InTable (with_reserved stood name words others) spell s → 0 < row_of t (map stood s)
  has_row spell s h =
      let row = unreserved spell s h in
      is_found ((Token Ident, name) ∷ others) is.texts t is.fits.1 row.0 (map stood s) ((in_seen stood ((Token Ident, name) ∷ others) row.0 s).0 row.1)

  module _ (at mode : ℕ) (text : List ℕ) where
    pub none_reserved : Takes (table (rows_of ((Token Ident, name) ∷ others))) at mode (map stood text) None → Takes (table (with_reserved stood name words others)) at mode text None
    none_reserved h = λ m some within x. taken_seen stood ((Token Ident, name) ∷ others) at mode text None h m some within (unreserved x.0 (take m text) x.1)

    one_reserved : (f : Found) (spell : Spell) → InTable (with_reserved stood name words others) spell (take f.units text) → Takes (table (rows_seen stood ((Token Ident, name) ∷ others))) at mode text (Some f)
        → Takes (table (with_reserved stood name words others)) at mode text (Some (record { spell = spell; units = f.units; mode = f.mode }))
    one_reserved f spell own h = (
      record {
        some = h.0.some;
        within = h.0.within;
        spelled = (spell, own);
        longest = λ m more within x. h.0.longest m more within (unreserved x.0 (take m text) x.1);
      },
      own,
      h.2,
    )

    pub word_taken : (f : Found) → IsAmong words (take f.units text) → Takes (table (rows_of ((Token Ident, name) ∷ others))) at mode (map stood text) (Some f)
        → Takes (table (with_reserved stood name words others)) at mode text (Some (record { spell = Token Word; units = f.units; mode = f.mode }))
    word_taken f word h = one_reserved f (Token Word) (inr (inl (refl, word))) (taken_seen stood ((Token Ident, name) ∷ others) at mode text (Some f) h)

    pub free_taken : (f : Found) → (is_name f.spell ≡ true → IsAmong words (take f.units text) → ⊥) → Takes (table (rows_of ((Token Ident, name) ∷ others))) at mode (map stood text) (Some f)
        → Takes (table (with_reserved stood name words others)) at mode text (Some f)
    free_taken f free h =
        let taken = taken_seen stood ((Token Ident, name) ∷ others) at mode text (Some f) h in
        one_reserved f f.spell (unless_reserved f.spell (take f.units text) (λ e. free (ap is_name e)) taken.1) taken

  -- no spelling is of two kinds
  pub one_kind_reserved : OneKind (with_reserved stood name words others)
  one_kind_reserved s a b h k =
      ⊎_elim
      (λ own. ⊎_elim (λ too. own.0 ∙ sym too.0) (λ k. ⊎_elim (λ word. absurd (own.1.1 word.1)) (λ other. own.0 ∙ one s (Token Ident) b (inl (refl, own.1.0)) (inr other)) k) k)
      (λ h. ⊎_elim
      (λ word. ⊎_elim (λ own. absurd (own.1.1 word.1)) (λ k. ⊎_elim (λ too. word.0 ∙ sym too.0) (λ other. absurd (apart b word.1 other)) k) k)
      (λ other. ⊎_elim
      (λ own. one s a (Token Ident) (inr other) (inl (refl, own.1.0)) ∙ sym own.0)
      (λ k. ⊎_elim (λ word. absurd (apart a word.1 other)) (λ too. one s a b (inr other) (inr too)) k) k) h)
      h
    where
      one : OneKind (rows_seen stood ((Token Ident, name) ∷ others))
      one = one_kind_seen stood ((Token Ident, name) ∷ others) (one_kind ((Token Ident, name) ∷ others) is.texts t is.fits.1)

      apart : (c : Spell) → IsAmong words s → InTable (rows_seen stood others) c s → ⊥
      apart c word other =
          no_name others is.no_names c (map stood s) ((in_seen stood others c s).0 other) (sym (one s (Token Ident) c (inl (refl, is.words_named s word)) (inr other)))
