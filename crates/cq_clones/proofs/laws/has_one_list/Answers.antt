use Rattle.cq_clones.proofs.Order.{AreGroups-same}
use Rattle.cq_clones.proofs.laws.has_one_list.Goals as goal

pub returns : goal.returns
returns c = λ corpus least xs ys. AreGroups-same corpus least xs ys
