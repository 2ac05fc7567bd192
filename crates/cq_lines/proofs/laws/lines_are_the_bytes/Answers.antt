use Rattle.cq_lines.proofs.Whole.{split_whole}
use Rattle.cq_lines.proofs.laws.lines_are_the_bytes.Goals as goal

pub returns : goal.returns
returns c = split_whole
