use Rattle.cq_tokform.proofs.Wholes.{none_begins_another}
use Rattle.cq_tokform.proofs.laws.no_whole_begins_another.Goals as goal

pub returns : goal.returns
returns c = none_begins_another
