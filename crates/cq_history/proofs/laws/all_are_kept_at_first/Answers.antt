use Rattle.cq_history.proofs.Keeping.{all_kept}
use Rattle.cq_history.proofs.laws.all_are_kept_at_first.Goals as goal

pub returns : goal.returns
returns c = all_kept
