use Rattle.cq_munch.specs.OneAnswer.{one_answer}
use Rattle.cq_munch.proofs.munching.one_answer.Goals as goal

pub returns : goal.returns
returns g c = one_answer g.X.Lexis.language g.met.X.Lexis.one_kind g.X.Lexis.translated g.X.Lexis.completed
