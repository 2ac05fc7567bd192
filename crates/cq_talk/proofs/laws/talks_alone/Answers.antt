use Rattle.cq_talk.proofs.AloneTalk.{alone_from_nothing}
use Rattle.cq_talk.proofs.laws.talks_alone.Goals as goal

pub returns : goal.returns
returns g = λ set callers by later lines replies talk law. alone_from_nothing set callers by later lines replies talk law
