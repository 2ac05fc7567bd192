use Rattle.cq_history.proofs.Prefixes.{files_at-append, conditions_at-append}
use Rattle.cq_history.proofs.laws.versions_stay.Goals as goal

pub returns : goal.returns
returns c = λ h later version project low. (files_at-append h later version project low, conditions_at-append h later version project low)
