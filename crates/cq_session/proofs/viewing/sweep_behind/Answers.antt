use Rattle.std.proofs.Common.{rules}
use Rattle.cq_session.proofs.OneView.{swept_then}
use Rattle.cq_session.proofs.viewing.sweep_behind.Goals as goal

pub returns-clause-swept : goal.returns-clause-swept
returns-clause-swept g c = search (rules, swept_then)
