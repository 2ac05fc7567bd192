use Rattle.cq_history.proofs.Forgetting.{kept_are}
use Rattle.cq_history.proofs.laws.kept_numbers_are_those.Goals as goal

pub returns : goal.returns
returns c = kept_are
