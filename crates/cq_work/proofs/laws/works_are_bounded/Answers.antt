use Rattle.cq_work.proofs.Bounded.{bounded}
use Rattle.cq_work.proofs.laws.works_are_bounded.Goals as goal

pub returns : goal.returns
returns g c = bounded
