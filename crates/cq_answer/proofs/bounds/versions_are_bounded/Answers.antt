use Rattle.cq_answer.proofs.Bounding.{version_bounded}
use Rattle.cq_answer.proofs.bounds.versions_are_bounded.Goals as goal

pub returns : goal.returns
returns g c = version_bounded
