use Rattle.cq_lines.proofs.Spending.{spent_again}
use Rattle.cq_lines.proofs.laws.spent_comes_again.Goals as goal

pub returns : goal.returns
returns c = spent_again
