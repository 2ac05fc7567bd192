-- No spelling is of two kinds: each table finds one row for each.
use Rattle.std.proofs.Common.{◌≡◌, ℕ, true, if◌then◌else◌, List, [], ◌∷◌, refl, ap}
use Rattle.std.proofs.lemmas.Bool.{lt-ltb}
use Rattle.cq_base.specs.declared.token.Class.TheVariants.{Punct}
use Rattle.cq_munch.specs.Automata.{Tables, row_fits, rows_fit, fits}
use Rattle.cq_munch.specs.Characters.{seen_as}
use Rattle.cq_munch.specs.Language.{HasOneKind}
use Rattle.cq_munch.specs.Patterned.{patterns_of}
use Rattle.cq_munch.specs.PlainNames.{plain_fits, IsItselfBelow}
use Rattle.cq_munch.specs.Scanners.{IsScanner}
use Rattle.cq_munch.specs.Tabled.{sign}
use Rattle.cq_munch.specs.declared.element.Spell.TheVariants.{Token}
use Rattle.cq_munch.specs.declared.ends.LineEnds.TheVariants.{Separator}
use Rattle.cq_munch.proofs.OneKind.{OneKind, no_kind, of_language, of_tests, one_block, one_line, one_sign}
use Rattle.cq_munch.proofs.Reserving.{one_kind_reserved, scanner_of}
use Rattle.cq_munch.proofs.RowScans.{one_kind}
use Rattle.cq_munch.proofs.Seen.{one_kind_seen}
use Rattle.cq_lex_js.specs.Characters.{begins_name, continues_name, is_wide_blank, lined, stood}
use Rattle.cq_lex_js.specs.JavaScript.{javascript, hashbang, others, is_plain_blank, rows, rows_at, tests}
use Rattle.cq_lex_js.specs.ChildrenScanner.{texts as children_texts}
use Rattle.cq_lex_js.specs.Jsx.{children, closing_tag, tag, tag_words, text}
use Rattle.cq_lex_js.specs.LiteralScanner.{texts as literal_texts}
use Rattle.cq_lex_js.specs.Literals.{literal, literals}
use Rattle.cq_lex_js.specs.Modes.{mode_behind}
use Rattle.cq_lex_js.specs.Names.{name, keywords}
use Rattle.cq_lex_js.specs.Scanner.{scanned, texts}
use Rattle.cq_lex_js.specs.TagScanner.{texts as tag_texts}
use Rattle.cq_lex_js.specs.TypeScript.{is_closing, typed_at, typed_behind, typescript}
use Rattle.cq_lex_js.specs.declared.children.TheConstants as children_table
use Rattle.cq_lex_js.specs.declared.literal.TheConstants as literal_table
use Rattle.cq_lex_js.specs.declared.tag.TheConstants as tag_table
use Rattle.cq_lex_js.specs.declared.scanner.TheConstants.{CLASSES, STEPS, ENDS, NAMES, SPELLS}

abbrev pub scanner : Tables
scanner = record { classes = CLASSES; steps = STEPS; ends = ENDS }

-- the table fits the rows, by computing
pub scanner_fits : fits (patterns_of scanned) texts scanner ≡ true
unfolding fits rows_fit row_fits name hashbang
scanner_fits = refl

itself : IsItselfBelow 128 stood
itself c low = ap (λ b. if b then c else (if is_wide_blank c then 32 else seen_as begins_name continues_name c)) (lt-ltb c 128 low)

pub is_scanner : IsScanner stood name keywords others NAMES SPELLS scanner
unfolding plain_fits name
is_scanner = scanner_of stood name keywords others NAMES SPELLS scanner texts itself (refl, scanner_fits) refl refl refl

-- and those after a point
pub is_property_scanner : IsScanner stood name [] others NAMES SPELLS scanner
unfolding plain_fits name
is_property_scanner = scanner_of stood name [] others NAMES SPELLS scanner texts itself (refl, scanner_fits) refl refl refl

-- the other tables fit their rows
pub children_fit : fits (patterns_of children) children_texts (record { classes = children_table.CLASSES; steps = children_table.STEPS; ends = children_table.ENDS }) ≡ true
unfolding fits rows_fit row_fits closing_tag text
children_fit = refl

pub tag_fits : fits (patterns_of tag) tag_texts (record { classes = tag_table.CLASSES; steps = tag_table.STEPS; ends = tag_table.ENDS }) ≡ true
unfolding fits rows_fit row_fits tag_words
tag_fits = refl

pub literals_fit : fits (patterns_of literals) literal_texts (record { classes = literal_table.CLASSES; steps = literal_table.STEPS; ends = literal_table.ENDS }) ≡ true
unfolding fits rows_fit row_fits literal
literals_fit = refl

one_kind_at : (mode : ℕ) (text : List ℕ) → OneKind (rows_at mode text)
one_kind_at mode text =
    of_tests (tests mode text) rows (
      no_kind,
      (
        one_kind_seen stood children (one_kind children children_texts _ children_fit),
        (
          one_block,
          (
            one_line Separator,
            (
              one_kind_seen stood tag (one_kind tag tag_texts _ tag_fits),
              (
                one_kind_seen lined literals (one_kind literals literal_texts _ literals_fit),
                (
                  one_sign (Token Punct) 63,
                  (one_kind_reserved stood name [] others NAMES SPELLS scanner is_property_scanner, one_kind_reserved stood name keywords others NAMES SPELLS scanner is_scanner),
                ),
              ),
            ),
          ),
        ),
      ),
    )

pub one_kind_of_javascript : HasOneKind javascript
one_kind_of_javascript = of_language is_plain_blank rows_at mode_behind one_kind_at

pub one_kind_of_typescript : HasOneKind typescript
one_kind_of_typescript =
    of_language is_plain_blank typed_at typed_behind
    (λ mode text. of_tests ((is_closing text, sign (Token Punct) 62 ∷ []) ∷ []) (rows_at mode text) (one_sign (Token Punct) 62, one_kind_at mode text))
