use Rattle.cq_shorten.proofs.Renumbered.{leaves_the_same}
use Rattle.cq_shorten.proofs.laws.what_is_needed_leaves_the_same.Goals as goal

pub returns : goal.returns
returns c = leaves_the_same
