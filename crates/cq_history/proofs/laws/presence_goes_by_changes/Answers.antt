use Rattle.cq_history.proofs.Presence.{has_file_after}
use Rattle.cq_history.proofs.laws.presence_goes_by_changes.Goals as goal

pub returns : goal.returns
returns c = has_file_after
