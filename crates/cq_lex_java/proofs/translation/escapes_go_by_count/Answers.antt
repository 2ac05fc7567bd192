use Rattle.cq_lex_java.proofs.Counting.{by_count}
use Rattle.cq_lex_java.proofs.translation.escapes_go_by_count.Goals as goal

pub returns : goal.returns
returns c = by_count
