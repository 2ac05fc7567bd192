use Rattle.cq_history.proofs.Standing.{files_stand}
use Rattle.cq_history.proofs.laws.files_are_the_last_puts.Goals as goal

pub returns : goal.returns
returns c = files_stand
