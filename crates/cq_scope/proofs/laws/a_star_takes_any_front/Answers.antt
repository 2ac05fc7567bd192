use Rattle.cq_scope.specs.Fits.{part_fits}
use Rattle.cq_scope.proofs.Fronts.{suffix_is_behind}
use Rattle.cq_scope.proofs.laws.a_star_takes_any_front.Goals as goal

pub returns : goal.returns
returns c = λ pattern path. suffix_is_behind (part_fits pattern) path
