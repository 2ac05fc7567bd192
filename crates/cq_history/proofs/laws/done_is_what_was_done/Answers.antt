use Rattle.cq_history.proofs.Doing.{done_is}
use Rattle.cq_history.proofs.laws.done_is_what_was_done.Goals as goal

pub returns : goal.returns
returns c = done_is
