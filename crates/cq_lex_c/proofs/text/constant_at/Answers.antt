use Rattle.std.proofs.Common.{refl}
use Rattle.cq_munch.specs.Automata.{row_fits, rows_fit, fits}
use Rattle.cq_munch.specs.Once.{scans_once}
use Rattle.cq_munch.specs.Quotes.{quoted}
use Rattle.cq_lex_c.specs.ConstantScanner.{texts}
use Rattle.cq_lex_c.specs.Texts.{constant}
use Rattle.cq_lex_c.proofs.text.constant_at.Goals as goal

pub returns-clause-text : goal.returns-clause-text
unfolding fits rows_fit row_fits quoted scans_once
returns-clause-text c = c.once_at.ensures.text constant texts (refl, refl) c.requires.known

pub returns-clause-known : goal.returns-clause-known
unfolding fits rows_fit row_fits quoted scans_once
returns-clause-known c = c.once_at.ensures.known constant texts (refl, refl) c.requires.known
