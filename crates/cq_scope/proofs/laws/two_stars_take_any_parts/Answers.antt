use Rattle.cq_scope.specs.Fits.{parts_fit}
use Rattle.cq_scope.proofs.Fronts.{suffix_is_behind}
use Rattle.cq_scope.proofs.laws.two_stars_take_any_parts.Goals as goal

pub returns : goal.returns
returns c = λ pattern path. suffix_is_behind (parts_fit pattern) path
