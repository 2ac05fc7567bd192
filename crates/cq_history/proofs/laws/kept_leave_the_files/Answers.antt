use Rattle.cq_history.proofs.KeptFiles.{kept_leave_the_files}
use Rattle.cq_history.proofs.laws.kept_leave_the_files.Goals as goal

pub returns : goal.returns
returns c = kept_leave_the_files
