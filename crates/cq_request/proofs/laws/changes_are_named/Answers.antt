use Rattle.cq_request.proofs.Naming.{named}
use Rattle.cq_request.proofs.laws.changes_are_named.Goals as goal

pub returns : goal.returns
returns c = named
