use Rattle.std.proofs.Common.{refl}
use Rattle.cq_munch.specs.Automata.{row_fits, rows_fit, fits}
use Rattle.cq_lex_java.specs.Blocks.{text_block}
use Rattle.cq_lex_java.specs.BlockScanner.{scanned, texts}
use Rattle.cq_lex_java.proofs.block.closed_block.Goals as goal

pub returns : goal.returns
unfolding fits rows_fit row_fits text_block
returns c = c.longest_found.ensures.found scanned texts (refl, refl)
