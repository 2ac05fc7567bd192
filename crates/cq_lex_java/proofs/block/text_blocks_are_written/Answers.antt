use Rattle.cq_lex_java.proofs.TextBlocks.{are_written}
use Rattle.cq_lex_java.proofs.block.text_blocks_are_written.Goals as goal

pub returns : goal.returns
returns c = are_written
