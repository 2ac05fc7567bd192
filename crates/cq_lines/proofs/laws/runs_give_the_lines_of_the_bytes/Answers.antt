use Rattle.cq_lines.proofs.Whole.{cut_none, cut_line, run_ends}
use Rattle.cq_lines.proofs.laws.runs_give_the_lines_of_the_bytes.Goals as goal

pub returns : goal.returns
returns c = record { begin = cut_none; go_on = cut_line; end = run_ends }
