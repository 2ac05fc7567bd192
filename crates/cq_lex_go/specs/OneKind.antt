-- No spelling is of two kinds: the table finds one row for each.
use Rattle.std.proofs.Common.{◌≡◌, true, refl}
use Rattle.cq_munch.specs.Automata.{Tables, row_fits, rows_fit, fits}
use Rattle.cq_munch.specs.Language.{HasOneKind}
use Rattle.cq_munch.specs.Patterned.{patterns_of}
use Rattle.cq_munch.specs.PlainNames.{plain_fits}
use Rattle.cq_munch.specs.Quotes.{quoted}
use Rattle.cq_munch.specs.Scanners.{IsScanner}
use Rattle.cq_munch.specs.Tabled.{stays}
use Rattle.cq_munch.specs.declared.ends.LineEnds.TheVariants.{Feed}
use Rattle.cq_munch.proofs.OneKind.{of_language, of_tests, one_block, one_line}
use Rattle.cq_munch.proofs.Reserving.{one_kind_reserved, scanner_of}
use Rattle.cq_munch.proofs.Seen.{itself_below}
use Rattle.cq_lex_go.specs.Go.{go, is_blank, others, rows, rows_at, tests}
use Rattle.cq_lex_go.specs.Numbers.{number}
use Rattle.cq_lex_go.specs.RawStrings.{raw_string}
use Rattle.cq_lex_go.specs.Scanner.{scanned, texts}
use Rattle.cq_lex_go.specs.Words.{is_letter, is_digit, stood, name, keywords}
use Rattle.cq_lex_go.specs.declared.scanner.TheConstants.{CLASSES, STEPS, ENDS, NAMES, SPELLS}

abbrev pub scanner : Tables
scanner = record { classes = CLASSES; steps = STEPS; ends = ENDS }

-- the table fits the rows, by computing
pub scanner_fits : fits (patterns_of scanned) texts scanner ≡ true
unfolding fits rows_fit row_fits name number quoted raw_string
scanner_fits = refl

pub is_scanner : IsScanner stood name keywords others NAMES SPELLS scanner
unfolding plain_fits name
is_scanner = scanner_of stood name keywords others NAMES SPELLS scanner texts (itself_below is_letter is_digit) (refl, scanner_fits) refl refl refl

pub one_kind_of_go : HasOneKind go
one_kind_of_go =
    of_language is_blank rows_at stays
    (λ mode text. of_tests (tests text) rows (one_block, (one_line Feed, one_kind_reserved stood name keywords others NAMES SPELLS scanner is_scanner)))
