-- No spelling is of two kinds: the table finds one row for each spelling without quotes, and none for a text in quotes.
use Rattle.std.proofs.Common.{◌≡◌, ℕ, ◌-◌, true, false, List, [], ◌∷◌, ◌++◌, map, refl, sym, subst, ap, ◌∙◌, ⊎_elim, arith}
use Rattle.std.proofs.lemmas.Bool.{eqb-true, both_ways}
use Rattle.cq_munch.specs.Automata.{Tables, entry_at, row_of, row_fits, rows_fit, fits}
use Rattle.cq_munch.specs.Behind.{takes_empty}
use Rattle.cq_munch.specs.Comments.{IsAfter}
use Rattle.cq_munch.specs.Language.{HasOneKind}
use Rattle.cq_munch.specs.Pattern.{Pattern, Spells, in_ranges, only, many, ◌▸◌}
use Rattle.cq_munch.specs.Patterned.{patterns_of}
use Rattle.cq_munch.specs.PlainNames.{plain_fits}
use Rattle.cq_munch.specs.Quotes.{quoted, item}
use Rattle.cq_munch.specs.Scanners.{IsScanner}
use Rattle.cq_munch.specs.Table.{InTable}
use Rattle.cq_munch.specs.declared.element.Spell.{Spell}
use Rattle.cq_munch.specs.declared.ends.LineEnds.TheVariants.{Feed, ReturnOrFeed}
use Rattle.cq_munch.proofs.OneKind.{OneKind, of_language, of_tests, one_block, one_line, one_more, one_row}
use Rattle.cq_munch.proofs.Reserving.{has_row, one_kind_reserved, scanner_of}
use Rattle.cq_munch.proofs.RowScans.{no_more}
use Rattle.cq_munch.proofs.Seen.{itself_below}
use Rattle.cq_munch.proofs.Steps.{takes_empty-if}
use Rattle.cq_lex_c.specs.C.{c as c_language, is_blank, rows, rows_at, tests, texts as text_row, prefixed, no_names, unquoted, other, headers, mode_behind}
use Rattle.cq_lex_c.specs.Characters.{begins_identifier, continues_identifier, stood}
use Rattle.cq_lex_c.specs.Identifiers.{identifier, keywords}
use Rattle.cq_lex_c.specs.Numbers.{number}
use Rattle.cq_lex_c.specs.Scanner.{scanned, texts}
use Rattle.cq_lex_c.specs.Texts.{IsString, IsText, IsPrefixed}
use Rattle.cq_lex_c.specs.declared.scanner.TheConstants.{CLASSES, STEPS, ENDS, NAMES, SPELLS}

abbrev pub scanner : Tables
scanner = record { classes = CLASSES; steps = STEPS; ends = ENDS }

-- the table fits the rows, by computing
pub scanner_fits : fits (patterns_of scanned) texts scanner ≡ true
unfolding fits rows_fit row_fits identifier number other
scanner_fits = refl

pub is_scanner : IsScanner stood identifier keywords no_names NAMES SPELLS scanner
unfolding plain_fits identifier
is_scanner = scanner_of stood identifier keywords no_names NAMES SPELLS scanner texts (itself_below begins_identifier continues_identifier) (refl, scanner_fits) refl refl refl

-- ---- texts in quotes, which no other row has

-- a quote, and at least one character more
begins : (n : ℕ) (q : Pattern) → takes_empty q ≡ false → (s : List ℕ) → Spells (only n ▸ q) s → (d : ℕ) × (t : List ℕ) × (s ≡ n ∷ d ∷ t)
begins n q some s (a, b, parts, (c, one, within), rest) = by b rest (parts ∙ ap (λ v. v ++ b) one ∙ ap (λ m. m ∷ b) (only_one n c within))
  where
    only_one : (m d : ℕ) → in_ranges ((m, m) ∷ []) d ≡ true → d ≡ m
    only_one m d k = grind arith

    by : (b : List ℕ) → Spells q b → s ≡ n ∷ b → (d : ℕ) × (t : List ℕ) × (s ≡ n ∷ d ∷ t)
    by [] rest is = absurd (both_ways (takes_empty q) some (takes_empty-if q rest))
    by (d ∷ t) rest is = (d, t, is)

string_begins : (s : List ℕ) → IsString s → (d : ℕ) × (t : List ℕ) × (s ≡ 34 ∷ d ∷ t)
unfolding quoted
string_begins s h = begins 34 (many (item 34 ReturnOrFeed) ▸ only 34) refl s h

-- the table has no row for it, nor for it after one of these characters
abbrev NoRow : List ℕ → Type 0
NoRow s = row_of scanner (map stood s) ≡ 0

record NoRows (s : List ℕ) : Type 0 where
  alone : NoRow s
  small : NoRow (117 ∷ s)
  big : NoRow (85 ∷ s)
  wide : NoRow (76 ∷ s)

at_quote : (d : ℕ) (t : List ℕ) → NoRows (34 ∷ d ∷ t)
at_quote d t = record { alone = no_more scanner (entry_at scanner 0 34 - 1) refl (stood d) (map stood t); small = refl; big = refl; wide = refl }

at_apostrophe : (d : ℕ) (t : List ℕ) → NoRows (39 ∷ d ∷ t)
at_apostrophe d t = record { alone = no_more scanner (entry_at scanner 0 39 - 1) refl (stood d) (map stood t); small = refl; big = refl; wide = refl }

no_text : (s : List ℕ) → IsText s → NoRows s
unfolding quoted
no_text s h =
    ⊎_elim
    (λ a. let is = string_begins s a in subst NoRows (sym is.2) (at_quote is.0 is.1))
    (λ b. let is = begins 39 (((item 39 ReturnOrFeed) ▸ many (item 39 ReturnOrFeed)) ▸ only 39) refl s b in subst NoRows (sym is.2) (at_apostrophe is.0 is.1))
    h

no_prefixed : (s : List ℕ) → IsPrefixed s → NoRow s
no_prefixed [] h = absurd (⊎_elim (λ a. a) (λ h. ⊎_elim (λ b. b) (λ b. b) h) h)
no_prefixed (c ∷ s) h =
    ⊎_elim
    (λ a. subst (λ d. NoRow (d ∷ s)) (sym (eqb-true c 117 a.0)) (⊎_elim (λ text. (no_text s text).small) (λ eight. by_eight s eight) a.1))
    (λ h. ⊎_elim
    (λ b. subst (λ d. NoRow (d ∷ s)) (sym (eqb-true c 85 b.0)) (no_text s b.1).big)
    (λ b. subst (λ d. NoRow (d ∷ s)) (sym (eqb-true c 76 b.0)) (no_text s b.1).wide) h)
    h
  where
    by_eight : (s : List ℕ) → IsAfter 56 IsString s → NoRow (117 ∷ s)
    by_eight [] h = absurd h
    by_eight (d ∷ s) h =
        let is = string_begins s h.1 in
        subst (λ e. NoRow (117 ∷ e ∷ s)) (sym (eqb-true d 56 h.0)) (subst (λ v. NoRow (117 ∷ 56 ∷ v)) (sym is.2) refl)

unrowed : (spell : Spell) (s : List ℕ) → NoRow s → InTable unquoted spell s → ⊥
unrowed spell s none h =
    let found = has_row stood identifier keywords no_names NAMES SPELLS scanner is_scanner spell s h in
    omega (arith, none, found)

one_kind_of_rows : OneKind rows
one_kind_of_rows =
    one_more text_row (prefixed ∷ unquoted)
    (one_more prefixed unquoted (one_kind_reserved stood identifier keywords no_names NAMES SPELLS scanner is_scanner) (λ s b own h. absurd (unrowed b s (no_prefixed s own) h)))
    (λ s b own h. ⊎_elim (λ too. sym too.0) (λ h. absurd (unrowed b s (no_text s own).alone h)) h)

pub one_kind_of_c : HasOneKind c_language
one_kind_of_c = of_language is_blank rows_at mode_behind (λ mode text. of_tests (tests mode text) rows (one_row headers, (one_block, (one_line Feed, one_kind_of_rows))))
