use Rattle.cq_talk.proofs.GivingAlone.{gives_alone}
use Rattle.cq_talk.proofs.laws.alone_gives.Goals as goal

pub returns : goal.returns
returns g = λ set k. gives_alone set k
