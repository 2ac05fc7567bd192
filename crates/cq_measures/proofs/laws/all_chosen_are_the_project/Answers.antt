use Rattle.cq_measures.proofs.Chosen.{all_are_the_project}
use Rattle.cq_measures.proofs.laws.all_chosen_are_the_project.Goals as goal

pub returns : goal.returns
returns c = all_are_the_project
