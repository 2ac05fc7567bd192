use Rattle.cq_history.proofs.FewFiles.{files_kept}
use Rattle.cq_history.proofs.laws.files_are_kept.Goals as goal

pub returns : goal.returns
returns c = files_kept
