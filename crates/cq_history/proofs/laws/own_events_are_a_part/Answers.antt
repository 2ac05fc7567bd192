use Rattle.cq_history.proofs.Falling.{own_part}
use Rattle.cq_history.proofs.Prefixes.{own-append}
use Rattle.cq_history.proofs.laws.own_events_are_a_part.Goals as goal

pub returns : goal.returns
returns c = λ by h later. (own_part by h, own-append by h later)
