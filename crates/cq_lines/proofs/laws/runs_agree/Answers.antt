use Rattle.cq_lines.proofs.Whole.{runs_agree}
use Rattle.cq_lines.proofs.laws.runs_agree.Goals as goal

pub returns : goal.returns
returns c = runs_agree
