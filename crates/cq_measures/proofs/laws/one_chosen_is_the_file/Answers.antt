use Rattle.cq_measures.proofs.Chosen.{one_is_the_file}
use Rattle.cq_measures.proofs.laws.one_chosen_is_the_file.Goals as goal

pub returns : goal.returns
returns c = one_is_the_file
