use Rattle.cq_munch.proofs.MarkWords.{the_last_word_counts}
use Rattle.cq_munch.proofs.marking.the_last_word_counts.Goals as goal

pub returns : goal.returns
returns c = the_last_word_counts
