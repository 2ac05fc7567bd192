use Rattle.cq_history.proofs.Keeping.{above_kept}
use Rattle.cq_history.proofs.laws.all_above_are_kept.Goals as goal

pub returns : goal.returns
returns c = above_kept
