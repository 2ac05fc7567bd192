use Rattle.cq_talk.proofs.Giving.{besides}
use Rattle.cq_talk.proofs.laws.beside_gives.Goals as goal

pub returns : goal.returns
returns g = λ set k. besides set k
