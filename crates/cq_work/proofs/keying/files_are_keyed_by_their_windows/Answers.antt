use Rattle.cq_work.proofs.Keyed.{keyed_by_windows}
use Rattle.cq_work.proofs.keying.files_are_keyed_by_their_windows.Goals as goal

pub returns : goal.returns
returns c = keyed_by_windows
