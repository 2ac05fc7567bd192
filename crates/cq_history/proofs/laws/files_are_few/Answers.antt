use Rattle.cq_history.proofs.FewFiles.{files_few}
use Rattle.cq_history.proofs.laws.files_are_few.Goals as goal

pub returns : goal.returns
returns c = files_few
