use Rattle.cq_shared.proofs.Calling.{extends}
use Rattle.cq_shared.proofs.shared.SharedHub.sweep.Goals as goal

pub sweep-requires : goal.sweep-requires
sweep-requires g c = record { of = c.requires.stands.2.is }

pub returns-clause-swept : goal.returns-clause-swept
returns-clause-swept g c = extends _ _ _ _ _ _ c.sweep.ensures.swept

pub returns-clause-once : goal.returns-clause-once
returns-clause-once g c = λ alone. absurd alone
