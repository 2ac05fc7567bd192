-- No spelling is of two kinds: the table finds one row for each.
use Rattle.std.proofs.Common.{◌≡◌, true, refl}
use Rattle.cq_base.specs.declared.token.Class.TheVariants.{Literal}
use Rattle.cq_munch.specs.Automata.{Tables, row_fits, rows_fit, fits}
use Rattle.cq_munch.specs.Language.{HasOneKind}
use Rattle.cq_munch.specs.Pattern.{Spells}
use Rattle.cq_munch.specs.Patterned.{patterns_of}
use Rattle.cq_munch.specs.PlainNames.{plain_fits}
use Rattle.cq_munch.specs.Quotes.{quoted}
use Rattle.cq_munch.specs.Scanners.{IsScanner}
use Rattle.cq_munch.specs.Tabled.{stays}
use Rattle.cq_munch.specs.declared.element.Spell.TheVariants.{Blank, Token}
use Rattle.cq_munch.specs.declared.ends.LineEnds.TheVariants.{ReturnOrFeed}
use Rattle.cq_munch.proofs.OneKind.{of_language, of_tests, one_block, one_line, one_row, one_sign}
use Rattle.cq_munch.proofs.Reserving.{one_kind_reserved, scanner_of}
use Rattle.cq_munch.proofs.Seen.{itself_below}
use Rattle.cq_lex_java.specs.Blocks.{text_block}
use Rattle.cq_lex_java.specs.Java.{is_blank, java, others, rows, rows_at, tests}
use Rattle.cq_lex_java.specs.Numbers.{number}
use Rattle.cq_lex_java.specs.Scanner.{scanned, texts}
use Rattle.cq_lex_java.specs.Words.{begins_identifier, continues_identifier, stood, identifier, keywords}
use Rattle.cq_lex_java.specs.declared.scanner.TheConstants.{CLASSES, STEPS, ENDS, NAMES, SPELLS}

abbrev pub scanner : Tables
scanner = record { classes = CLASSES; steps = STEPS; ends = ENDS }

-- the table fits the rows, by computing
pub scanner_fits : fits (patterns_of scanned) texts scanner ≡ true
unfolding fits rows_fit row_fits identifier number quoted
scanner_fits = refl

pub is_scanner : IsScanner stood identifier keywords others NAMES SPELLS scanner
unfolding plain_fits identifier
is_scanner = scanner_of stood identifier keywords others NAMES SPELLS scanner texts (itself_below begins_identifier continues_identifier) (refl, scanner_fits) refl refl refl

pub one_kind_of_java : HasOneKind java
one_kind_of_java =
    of_language is_blank rows_at stays
    (λ mode text.
    of_tests (tests text) rows
    (one_block, (one_line ReturnOrFeed, (one_row (record { spell = Token Literal; set = Spells text_block }), (one_sign Blank 26, one_kind_reserved stood identifier keywords others NAMES SPELLS scanner is_scanner)))))
