use Rattle.cq_talk.proofs.AloneBeside.{alone_beside}
use Rattle.cq_talk.proofs.laws.alone_is_beside.Goals as goal

pub returns : goal.returns
returns g = λ set lines replies is none. alone_beside set lines replies is none
