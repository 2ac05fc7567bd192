use Rattle.std.proofs.Common.{refl}
use Rattle.cq_lex_js.specs.OneKind.{literals_fit}
use Rattle.cq_lex_js.specs.LiteralScanner.{scanned, texts}
use Rattle.cq_lex_js.proofs.literal.closed_literal.Goals as goal

pub returns : goal.returns
returns c = c.longest_seen.ensures scanned texts (refl, literals_fit)
