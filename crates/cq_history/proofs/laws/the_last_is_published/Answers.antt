use Rattle.cq_history.proofs.Lasting.{lasts_are}
use Rattle.cq_history.proofs.laws.the_last_is_published.Goals as goal

pub returns : goal.returns
returns c = lasts_are
