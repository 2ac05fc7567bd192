use Rattle.cq_answer.proofs.Bounding.{named_files}
use Rattle.cq_answer.proofs.bounds.paths_are_named.Goals as goal

pub returns : goal.returns
returns g c = named_files
